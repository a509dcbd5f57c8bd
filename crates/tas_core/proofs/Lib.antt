pub mod Runs
pub mod Newest
