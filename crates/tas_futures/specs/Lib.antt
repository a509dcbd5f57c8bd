pub mod Waiting
pub mod Answers
pub mod Polling
pub mod Readying
pub mod Sending
pub mod Receiving
