-- Laws for finds, reads and listings on an opened volume.
pub mod Answers
pub mod Finds
pub mod Streams
pub mod StreamBytes
pub mod ReadAnswers
pub mod AtEntry
pub mod ReadSteps
pub mod Lists
