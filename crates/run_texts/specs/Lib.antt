pub mod Counting
pub mod Frames
pub mod Writes
pub mod Records
