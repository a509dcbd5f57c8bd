pub mod Chains
pub mod Keeping
pub mod Passing
pub mod Runs
pub mod Serving
pub mod Sweeping
