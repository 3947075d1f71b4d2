-- Laws for the calls on pulse streams.
pub mod Pieces
pub mod Listed
pub mod Parsing
pub mod Outcomes
pub mod WorkLengths
pub mod Finding
pub mod PulsesAt
pub mod Adding
pub mod Opening
