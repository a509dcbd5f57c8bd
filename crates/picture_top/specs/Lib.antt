pub mod Words
pub mod Asking
pub mod Pictures
pub mod Stops
pub mod Telling
pub mod Answers
