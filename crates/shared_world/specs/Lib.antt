pub mod Sites
pub mod Looking
pub mod Stepping
pub mod Wholes
