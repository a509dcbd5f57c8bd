pub mod CoreTurns
pub mod AppTurns
pub mod LaneTurns
pub mod Gathering
pub mod Phases
pub mod Handing
pub mod Collecting
pub mod Ticks
