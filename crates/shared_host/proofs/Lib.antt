pub mod Lists
pub mod Adding
pub mod SlowPaths
pub mod Giving
