-- What the walk over the trees answers, and the test of the last pass.
pub mod Walked
