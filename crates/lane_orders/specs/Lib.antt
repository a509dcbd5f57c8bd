pub mod Turns
pub mod Ticks
