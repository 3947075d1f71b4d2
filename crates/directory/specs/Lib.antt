-- What the functions on the directory require and ensure, beside `format`.
pub mod Listed
pub mod Blanks
