-- What the frame laws speak of.
pub mod Groups
pub mod Good
pub mod Kept
pub mod Edits
pub mod Redraw
pub mod Place
pub mod Frame
pub mod Unlink
