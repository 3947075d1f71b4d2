-- What edits are stated with, beside `format`.
pub mod Rewritten
pub mod Gathered
pub mod Growths
