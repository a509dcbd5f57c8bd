pub mod Strays
pub mod Numbers
pub mod Openings
pub mod Heard
