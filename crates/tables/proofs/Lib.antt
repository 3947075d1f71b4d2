-- Laws for the functions on tables.
pub mod Places
pub mod WorkLaws
pub mod Blocks
pub mod Copies
pub mod DifatLaws
pub mod ListLaws
pub mod MarkLaws
pub mod SectorLaws
pub mod StageLaws
