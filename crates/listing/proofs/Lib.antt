-- Laws for the listing.
pub mod Prints
pub mod Stack
pub mod Turns
pub mod Walked
pub mod Walks
pub mod Measures
pub mod Writes
