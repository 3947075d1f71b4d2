-- What cursors and views are stated with, beside the definitions of `format`.
pub mod Cursors
