pub mod Orders
pub mod Deeds
pub mod Apps
pub mod Phases
mod Counted
