-- Where things stand in an image.
pub mod Geometry
pub mod Need
pub mod Chain
pub mod Space
pub mod Header
pub mod Tables
pub mod Name
pub mod PathOrder
pub mod Entry
pub mod NewEntry
pub mod Directory
pub mod Tree
pub mod Siblings
pub mod Volume
pub mod Objects
pub mod Stream
