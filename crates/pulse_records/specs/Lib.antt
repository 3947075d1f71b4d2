-- What the bytes of records and of a trailer are to the code.
pub mod Records
