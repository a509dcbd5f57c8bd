pub mod Scripts
pub mod Answers
pub mod Sound
pub mod Turns
pub mod Resting
pub mod GroupMoves
pub mod Tries
