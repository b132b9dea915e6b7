pub mod Covering
pub mod Within
pub mod Enough
pub mod Steps
pub mod Scopes
pub mod Modes
pub mod Laid
pub mod Sets
