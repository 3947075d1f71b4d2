-- What the laws of a repair speak of.
pub mod Tables
pub mod Steps
pub mod Black
