-- What the calls on an opened volume require and ensure again.
pub mod OpenVolume
pub mod Opening
pub mod Sequence
