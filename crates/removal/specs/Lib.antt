-- What a removal requires, beside `format`.
pub mod Leads
