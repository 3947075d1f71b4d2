-- What the functions on tables require and leave.
pub mod Words
pub mod Views
pub mod Work
pub mod Listed
pub mod Stages
