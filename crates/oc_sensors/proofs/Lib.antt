mod Orders
pub mod Before
pub mod Moving
pub mod Words
