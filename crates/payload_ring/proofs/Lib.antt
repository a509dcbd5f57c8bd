pub mod Turning
pub mod Windows
pub mod Zeros
