-- What the functions that write a fresh image are called with, and the order in which they write.
pub mod Plans
pub mod Numbers
