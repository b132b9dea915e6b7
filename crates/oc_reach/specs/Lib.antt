pub mod Marked
pub mod Within
pub mod Views
pub mod Through
