pub mod Handing
pub mod Giving
