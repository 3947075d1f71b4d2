-- What the answers of the walk say, and the pairs of names that it notes.
pub mod Passes
pub mod Batches
