-- Laws for the functions on entries.
pub mod EntryLaws
pub mod NameLaws
pub mod Orderings
