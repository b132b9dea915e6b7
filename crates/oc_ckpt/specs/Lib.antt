pub mod Saving
pub mod Examples
