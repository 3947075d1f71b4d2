-- Laws for the mini FAT.
pub mod ListLaws
pub mod Sectors
pub mod Rules
