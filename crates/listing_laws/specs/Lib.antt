-- What the laws of listings speak of, beside `format`.
pub mod Search
pub mod Leads
pub mod Text
