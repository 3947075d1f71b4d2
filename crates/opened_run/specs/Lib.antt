-- What the calls in a row are stated with.
pub mod Row
