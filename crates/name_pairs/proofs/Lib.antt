-- Laws of pairs of names.
pub mod Pairs
