-- Laws of records and trailers in bytes.
pub mod Summing
pub mod Tails
