-- What the functions on a tree of siblings require and ensure, beside `format`.
pub mod Siblings
pub mod Places
pub mod Removable
