pub mod Functions
pub mod Passed
pub mod WalkLaws
pub mod Numbering
pub mod FlatLaws
pub mod Laws
