-- Laws for the lister.
pub mod Refused
pub mod Output
