pub mod Targets
pub mod Seen
pub mod Kept
pub mod Examples
