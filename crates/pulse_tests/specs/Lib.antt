-- The definitions of `pulse_laws`, computed.
pub mod Opened
pub mod Images
pub mod Streams
pub mod Calls
pub mod Lists
