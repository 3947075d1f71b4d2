-- What the functions on nodes require and ensure, beside `format`.
pub mod Slots
pub mod Nodes
