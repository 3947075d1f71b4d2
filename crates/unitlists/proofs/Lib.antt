-- Laws for lists of units.
pub mod Limits
pub mod Searching
pub mod Picking
pub mod Filled
pub mod Listing
