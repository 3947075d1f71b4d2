-- Demand 3: what holds after any list of calls, fresh images and repairs.
pub mod Rows
pub mod Setting
pub mod Storages
pub mod State
pub mod Accepts
pub mod Step
pub mod Event
pub mod Claim
