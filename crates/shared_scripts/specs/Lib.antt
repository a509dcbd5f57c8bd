pub mod Playing
pub mod Begun
pub mod Answers
pub mod Turns
pub mod Going
pub mod Ended
