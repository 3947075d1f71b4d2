-- What the steps of a repair are called with.
pub mod Passed
