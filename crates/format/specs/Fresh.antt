-- A fresh image: what is asked for, every byte of it, and when it is refused.
pub mod Plan
pub mod Cells
pub mod Header
pub mod Image
pub mod Answer
