pub mod Slots
pub mod Last
pub mod Ops
pub mod Around
pub mod Room
pub mod Small
