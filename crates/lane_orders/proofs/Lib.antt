pub mod Handing
pub mod Beside
pub mod Ticks
pub mod Leaving
