-- What the laws of fresh images speak of.
pub mod Run
pub mod Facts
