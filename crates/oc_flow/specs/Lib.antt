pub mod Variables
pub mod Relations
pub mod Flow
pub mod Laws
pub mod Known
pub mod Examples
