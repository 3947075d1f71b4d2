-- Reading at a cursor, against its claims.
pub mod OneRead
pub mod Pieces
pub mod Refusals
