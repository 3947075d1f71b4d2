-- What the writes of a repair require and leave.
pub mod Cells
