-- Laws of lengths and of the header.
pub mod Allowed
pub mod HeaderNumbers
pub mod HeaderEntries
