-- Laws for one line of the listing.
pub mod LineLengths
pub mod LineWrites
