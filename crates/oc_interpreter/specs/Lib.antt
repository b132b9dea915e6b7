pub mod Fresh
pub mod Runs
pub mod Seen
pub mod Stores
pub mod Telling
pub mod Traces
