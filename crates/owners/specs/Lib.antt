-- What the functions on streams and owners answer, beside `format`.
pub mod Streams
