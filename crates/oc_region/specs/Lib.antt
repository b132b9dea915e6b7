pub mod Smallest
pub mod Regions
pub mod Law
pub mod Views
pub mod Inferred
pub mod United
pub mod Examples
