pub mod Entries
pub mod Lined
pub mod Worded
pub mod Streams
pub mod Standings
pub mod Taken
