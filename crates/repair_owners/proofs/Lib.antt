-- Laws for the fourth step.
pub mod Marking
pub mod Asking
pub mod Freeing
