pub mod Items
pub mod Untimely
pub mod Deciding
pub mod Worked
pub mod Shorts
