-- Laws for the calls on an opened volume.
pub mod Validated
pub mod Inside
pub mod Lent
pub mod Numbers
pub mod Calls
pub mod Sequence
