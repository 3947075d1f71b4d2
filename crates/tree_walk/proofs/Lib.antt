-- Laws for the turns of the walk over the trees.
pub mod Stacks
pub mod Lends
pub mod Siblings
pub mod Starts
pub mod Downs
pub mod Visits
pub mod Ends
