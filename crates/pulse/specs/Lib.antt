-- What the calls on pulse streams are stated with, beside the definitions of `pulse_laws`.
pub mod Parsed
pub mod Replies
pub mod Found
