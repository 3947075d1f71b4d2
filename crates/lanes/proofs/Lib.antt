-- Laws of chains that are marked side by side.
pub mod ToGo
pub mod Side
pub mod Ends
pub mod Arrays
pub mod Runs
