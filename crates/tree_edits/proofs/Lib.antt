-- The laws behind the functions on a tree of siblings.
pub mod Gathering
pub mod Blackening
pub mod Unlinks
pub mod Whole
