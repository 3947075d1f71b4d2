-- Laws for units of either kind.
pub mod Units
pub mod Walks
pub mod Lengths
pub mod Places
pub mod Stands
pub mod Listed
pub mod SameCells
