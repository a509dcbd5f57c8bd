pub mod Passing
pub mod Ticking
