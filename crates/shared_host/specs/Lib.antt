pub mod Cores
pub mod SlowPaths
pub mod Applications
