pub mod ReachLaws
pub mod Worked
pub mod Few
pub mod Maps
pub mod Grouped
pub mod PartLaws
