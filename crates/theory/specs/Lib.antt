-- What the laws speak of, beside `format`.
pub mod Sums
pub mod Links
pub mod Owned
pub mod Blocks
pub mod Marks
pub mod TreeViews
pub mod TreeOrder
pub mod TreeWalk
pub mod TreeInorder
pub mod TreeFind
pub mod TreePaths
pub mod TreeDraw
pub mod TreeWays
pub mod TreeEdits
pub mod TreeObjects
pub mod TreeUnlink
pub mod TreeHeir
