-- Why a fresh image is accepted, in the order of reading.
pub mod Joined
pub mod Runs
pub mod Numbers
pub mod Blocks
pub mod Header
pub mod Cells
pub mod Difat
pub mod Places
pub mod Tables
pub mod Directory
pub mod Minis
pub mod Owners
pub mod Accepted
pub mod Results
pub mod Begins
pub mod Answer
