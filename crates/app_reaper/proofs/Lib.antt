pub mod Calls
pub mod Dooming
pub mod Places
pub mod Walking
