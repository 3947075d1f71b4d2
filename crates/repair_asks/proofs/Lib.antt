-- The first test that fails decides what is asked.
pub mod Asked
