-- What is asked of the cells of a part of a table.
pub mod Cells
