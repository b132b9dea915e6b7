pub mod Causes
pub mod Entering
pub mod Levels
pub mod Loading
mod Quieting
pub mod Reaching
mod Rowing
pub mod UnderWay
mod Words
