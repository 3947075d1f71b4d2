-- What a caller of the writes has to know.
pub mod Writable
pub mod Puts
