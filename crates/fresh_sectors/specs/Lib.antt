-- What the functions that write the sectors of a fresh image are called with, and what their loops have done.
pub mod Parts
pub mod Tables
pub mod Laid
