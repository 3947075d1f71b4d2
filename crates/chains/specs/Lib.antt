-- What the walks along the FAT answer and leave.
pub mod Answers
