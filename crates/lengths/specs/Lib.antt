-- What changes of any length are stated with, beside `format`.
pub mod Listed
