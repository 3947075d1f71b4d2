-- What the definitions are claimed to give, beside demand 3.
pub mod Folding
pub mod FoldingPaths
pub mod Search
pub mod PathOrder
pub mod ListingText
pub mod Listing
pub mod Cursor
pub mod Fresh
pub mod Repair
