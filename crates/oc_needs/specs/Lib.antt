pub mod Policies
pub mod Sites
pub mod Need
pub mod Requirements
pub mod View
pub mod Code
pub mod CodeView
pub mod Examples
