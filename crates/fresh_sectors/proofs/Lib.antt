-- The laws that the functions' proofs cite.
pub mod Laying
pub mod Standing
