pub mod CoreTurns
pub mod AppTurns
pub mod Lanes
pub mod Handing
pub mod Collecting
pub mod Ticks
