pub mod Effects
pub mod View
pub mod Walk
pub mod Known
pub mod Flat
pub mod Kept
