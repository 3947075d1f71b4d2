-- The search for a name needs no laws of its own: those of `theory` are enough. The descent to its place has.
pub mod Slots
