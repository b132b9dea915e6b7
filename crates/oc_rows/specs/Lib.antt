pub mod Numbers
pub mod Place
pub mod Reading
pub mod Rows
pub mod Examples
