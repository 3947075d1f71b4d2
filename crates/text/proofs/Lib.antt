-- Laws for text.
pub mod Decimals
pub mod Filled
pub mod Names
pub mod Over
pub mod Units
pub mod Writing
