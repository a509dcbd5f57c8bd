pub mod Places
pub mod Sums
pub mod Causes
pub mod Streams
pub mod Memory
pub mod Control
pub mod Captures
