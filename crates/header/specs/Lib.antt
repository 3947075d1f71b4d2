-- What the functions on lengths and on the header require.
pub mod Sized
