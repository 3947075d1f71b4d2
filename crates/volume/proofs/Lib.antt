-- Laws for validation, in the order of the groups.
pub mod Verdicts
pub mod Walks
pub mod Outcomes
pub mod MiniCounts
pub mod ListsKept
pub mod Copying
pub mod MiniStage
pub mod StreamList
pub mod Opening
