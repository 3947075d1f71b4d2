-- What the functions on the mini FAT require and leave.
pub mod Listed
