-- The rules that an image keeps, group by group, and the verdict.
pub mod Length
pub mod Version
pub mod Header
pub mod Tables
pub mod Cells
pub mod Directory
pub mod Entries
pub mod Trees
pub mod Mini
pub mod Streams
pub mod Owners
pub mod Verdict
