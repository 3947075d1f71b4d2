-- Laws for the walks along the FAT.
pub mod Walks
pub mod Owners
pub mod Listing
pub mod Cells
pub mod Groups
pub mod Copied
