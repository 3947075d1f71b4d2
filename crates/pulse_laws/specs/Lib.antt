-- Pulse streams: what their bytes are, and the calls on them (W-208).
--   Pulse     a record, the trailer, and what a stream's bytes must be
--   Added     the bytes after an addition
--   Calls     answers, replies and buffers of the three calls
--   Actions   lists of additions and other events
--   Claim     what is claimed of them
pub mod Pulse
pub mod Added
pub mod Calls
pub mod Actions
pub mod Claim
