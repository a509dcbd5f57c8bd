pub mod Deeds
pub mod Attempts
pub mod Lanes
pub mod Phases
pub mod Hosts
pub mod Parts
pub mod Words
