-- Laws for the chains that streams ask for.
pub mod Joins
pub mod Pairs
pub mod Gathering
pub mod Splitting
