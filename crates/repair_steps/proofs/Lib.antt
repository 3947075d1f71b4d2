-- Laws for the steps of a repair: the lists stay the image's own after each write, and the definitions of the steps, test by test.
pub mod SameLists
pub mod Steps
pub mod Passing
