-- Laws for streams and owners.
pub mod Both
pub mod Blocks
pub mod Marking
pub mod Covered
pub mod Groups
pub mod Judged
