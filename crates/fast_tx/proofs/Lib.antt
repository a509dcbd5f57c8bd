pub mod Columns
pub mod Heads
pub mod Alike
pub mod Told
pub mod Ends
