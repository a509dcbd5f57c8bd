pub mod Left
pub mod Led
pub mod Beginnings
