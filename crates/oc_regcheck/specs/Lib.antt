pub mod Inputs
pub mod Enough
pub mod BlockMarks
pub mod Laws
pub mod Code
pub mod Examples
