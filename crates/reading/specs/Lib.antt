-- What a read hands over, beside `format`.
pub mod Streams
