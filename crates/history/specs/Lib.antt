-- What the steps of the history speak of.
pub mod Alike
pub mod Changed
pub mod Step
