-- What the functions of group 14 ensure, beside `format`.
pub mod Names
pub mod Ahead
