-- What is said of units of either kind, beside `format`.
pub mod Spaces
pub mod Units
