pub mod Digits
pub mod Packed
pub mod Steps
