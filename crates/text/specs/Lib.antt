-- What text is stated with, beside `format`'s own definitions.
pub mod Lines
