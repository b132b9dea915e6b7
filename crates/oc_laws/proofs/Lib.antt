pub mod Bools
pub mod Maps
pub mod Members
pub mod Names
