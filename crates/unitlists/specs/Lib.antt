-- What is said of lists of units, beside `format`.
pub mod Searches
