-- The claims on one image.
pub mod Witness
pub mod Listing
pub mod Repair
