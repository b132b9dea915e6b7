pub mod Copies
pub mod Stands
