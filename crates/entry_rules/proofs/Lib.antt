-- Laws for the functions of group 14, what the group says of names, and the nodes of entries.
pub mod Fields
pub mod Ruled
pub mod Units
pub mod Reading
pub mod Passing
pub mod Ahead
