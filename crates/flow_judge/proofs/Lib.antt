pub mod Sends
pub mod Entries
pub mod NoBytes
pub mod Steps
pub mod Whole
pub mod Judged
