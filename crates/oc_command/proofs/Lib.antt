pub mod Taking
pub mod Commanding
pub mod Fetching
pub mod Naming
