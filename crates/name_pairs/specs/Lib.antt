-- What the functions on pairs of names require and ensure, beside `format`.
pub mod Pairs
