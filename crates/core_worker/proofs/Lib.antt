pub mod Emissions
pub mod Packets
pub mod Posts
pub mod Told
pub mod Records
pub mod Turns
