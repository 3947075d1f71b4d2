-- What the walks along the system's chains require and leave.
pub mod System
