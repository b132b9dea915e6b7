pub mod Undo
pub mod Examples
