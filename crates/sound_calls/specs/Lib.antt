pub mod Handing
pub mod Connecting
