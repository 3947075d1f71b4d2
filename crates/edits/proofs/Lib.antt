-- Laws for edits.
pub mod SamePlaces
pub mod Needs
pub mod Streams
pub mod Writables
pub mod Targets
pub mod Overwrites
pub mod Rewriting
pub mod Gathering
pub mod Growths
pub mod Looks
pub mod Resizes
