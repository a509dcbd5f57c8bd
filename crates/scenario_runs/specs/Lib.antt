pub mod Applications
pub mod Worlds
pub mod Runs
pub mod Histories
pub mod WorkedParts
pub mod WorkedRuns
