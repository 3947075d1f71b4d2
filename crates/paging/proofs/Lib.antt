-- Laws for cursors and views.
pub mod Moves
pub mod Paged
pub mod Views
