pub mod Delays
pub mod ByTick
pub mod DueOrder
pub mod Coming
