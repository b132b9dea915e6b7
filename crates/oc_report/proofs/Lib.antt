pub mod Readings
pub mod Readying
pub mod Executing
pub mod Writing
pub mod Variables
pub mod Stopping
pub mod Booking
pub mod Showing
