-- What is said of the streams of an opened volume.
pub mod Found
pub mod Listed
