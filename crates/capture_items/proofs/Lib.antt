pub mod Read
pub mod Batches
pub mod Filling
pub mod Following
pub mod Listed
pub mod Scanning
pub mod Replays
pub mod Counted
