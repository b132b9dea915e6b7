pub mod ItemLoops
pub mod Lines
pub mod Loops
pub mod SimpleParts
pub mod Spelled
pub mod StatementLoops
pub mod StatementParts
pub mod Views
pub mod Words
mod Worked
pub mod Expanded
pub mod Begun
