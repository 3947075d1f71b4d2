-- Laws of the writes into an entry.
pub mod Blocks
