-- Laws of pulse streams.
pub mod PulseStreams
pub mod Placed
pub mod Added
pub mod Runs
pub mod EqualPaths
pub mod RowBytes
pub mod RowEdits
pub mod StateEdits
pub mod StateAdded
pub mod Streams
pub mod Zeros
pub mod Refusals
pub mod Steps
pub mod Fades
