-- A listing can be trusted: its text read back; where paths lead; the whole.
pub mod Cuts
pub mod Texts
pub mod LineBack
pub mod ListingBack
pub mod Joined
pub mod Search
pub mod Leads
pub mod Descents
pub mod Resolved
pub mod Finds
pub mod Printables
pub mod Trusted
