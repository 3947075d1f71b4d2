-- The compound file format and our calls on it, as definitions. Each folder is one subject, each file one idea; the order
-- here is the order of reading.
--   Basics   lists, and numbers in bytes
--   Layout   where things stand in an image
--   Rules    groups 10 to 18, and the verdict
--   Calls    what each call answers, and what it leaves in every buffer
--   Fresh    a fresh image, byte by byte
--   History  what holds after any list of calls, fresh images and repairs (demand 3)
--   Claims   what else is claimed of these definitions
pub mod Basics
pub mod Layout
pub mod Rules
pub mod Calls
pub mod Fresh
pub mod History
pub mod Claims
