pub mod Acting
pub mod Arms
pub mod Kept
pub mod Quiet
pub mod Rows
pub mod Stacked
pub mod Telling
