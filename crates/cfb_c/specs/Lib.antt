-- What the calls on an opened volume are stated with.
pub mod Packed
