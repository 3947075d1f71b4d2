-- What the fourth step of a repair has in hand.
pub mod Streams
