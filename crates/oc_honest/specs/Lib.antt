pub mod Timely
pub mod Held
pub mod Honest
pub mod Deciding
pub mod Worked
pub mod Ended
pub mod Examples
pub mod HonestExamples
