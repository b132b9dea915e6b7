pub mod File
pub mod Causes
pub mod History
pub mod Keeping
pub mod Examples
