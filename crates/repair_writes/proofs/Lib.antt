-- Laws for the writes of a repair: the loops; the tables of an image by their lists; who owns a unit, by the marks.
pub mod Releasing
pub mod Blackening
pub mod Tables
pub mod Owners
