pub mod Enters
pub mod Counted
pub mod Ending
pub mod Fields
pub mod Stretches
