-- Laws for paths.
pub mod Splits
pub mod LegalNames
pub mod Steps
pub mod LastNames
pub mod Parents
