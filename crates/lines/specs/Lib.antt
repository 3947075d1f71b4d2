-- What a line of the listing is made of, and what writing one leaves.
pub mod Lines
