pub mod Maps
pub mod Publishing
pub mod Steps
