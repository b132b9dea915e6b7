pub mod Choice
pub mod Cutting
pub mod Entries
pub mod Looping
pub mod Power
pub mod Causes
pub mod Total
pub mod Examples
