-- What the turns of the walk over the trees require and leave.
pub mod Walking
