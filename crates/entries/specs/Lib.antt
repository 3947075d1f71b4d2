-- What the functions on entries require and ensure, beside `format`.
pub mod Entry
