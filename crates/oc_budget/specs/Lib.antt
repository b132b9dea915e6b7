pub mod Costs
pub mod Fitting
pub mod Budgets
pub mod View
pub mod Spent
pub mod Bounding
pub mod Examples
