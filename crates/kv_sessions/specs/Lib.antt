pub mod Stored
pub mod Shown
pub mod Lines
pub mod Commands
pub mod Outcomes
pub mod Answers
pub mod Sessions
pub mod Steps
