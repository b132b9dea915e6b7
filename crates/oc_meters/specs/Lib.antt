pub mod Tally
pub mod Passing
pub mod Reads
pub mod Taken
pub mod ReadBack
pub mod Kept
pub mod Lines
