pub mod Bare
pub mod Beginning
pub mod Counts
pub mod Functions
pub mod Growing
pub mod Levels
pub mod Parts
pub mod Passings
pub mod Turns
pub mod Visible
mod Firsts
