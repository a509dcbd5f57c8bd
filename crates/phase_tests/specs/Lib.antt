pub mod Resting
pub mod Hosts
