-- Which chains the streams of some entries ask for.
pub mod Asked
pub mod Split
