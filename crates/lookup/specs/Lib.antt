-- What the function that looks into the trees requires and ensures, beside `format`.
pub mod Children
pub mod Slots
