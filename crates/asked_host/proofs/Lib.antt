pub mod Accepting
pub mod Aborting
