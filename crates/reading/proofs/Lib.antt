-- Laws for reads.
pub mod Parts
pub mod StreamBytes
pub mod Reading
