pub mod Asking
pub mod Kills
