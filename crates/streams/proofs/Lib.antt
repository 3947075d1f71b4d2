-- Laws for streams of an opened volume.
pub mod Finding
pub mod Listing
pub mod Places
pub mod Pieces
