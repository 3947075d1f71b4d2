-- Laws for the functions on the directory.
pub mod Places
pub mod Fields
pub mod Sectors
pub mod Room
pub mod Blanks
