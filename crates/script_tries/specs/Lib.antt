pub mod Steps
pub mod Tries
pub mod Names
pub mod Replies
pub mod Answers
