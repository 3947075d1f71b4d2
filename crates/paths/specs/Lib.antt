-- What the functions on paths answer, beside `format`.
pub mod Found
pub mod Parents
