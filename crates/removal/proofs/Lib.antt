-- The laws behind a removal.
pub mod Refusals
pub mod Parents
pub mod Removes
pub mod Cuts
