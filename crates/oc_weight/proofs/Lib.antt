pub mod CappedLaws
pub mod OrderLaws
pub mod Callees
pub mod OrderTables
pub mod WeightCallees
pub mod Levels
pub mod ExprViews
