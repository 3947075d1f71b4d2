-- What the functions on the listing leave, beside `format`.
pub mod Walks
