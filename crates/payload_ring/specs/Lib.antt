pub mod Window
pub mod Turned
