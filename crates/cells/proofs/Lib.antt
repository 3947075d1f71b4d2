-- Laws for the loops over cells.
pub mod Turns
