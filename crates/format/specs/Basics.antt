-- Lists, and numbers in bytes.
pub mod Lists
pub mod Bytes
