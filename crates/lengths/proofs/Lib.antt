-- Laws for changes of any length.
pub mod Kept
pub mod Opens
pub mod Crossings
pub mod Shifts
pub mod MoveAnswers
pub mod Moves
pub mod LengthAnswers
