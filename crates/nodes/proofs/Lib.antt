-- Laws of slots and nodes.
pub mod Slots
pub mod Packing
pub mod Marks
