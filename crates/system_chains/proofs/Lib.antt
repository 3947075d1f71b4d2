-- Laws for the walks along the system's chains.
pub mod SystemLaws
