mod Words
pub mod Sums
mod Histories
mod Ordering
mod Acting
mod Changes
pub mod Pinning
mod Taking
mod Opening
mod Freeing
mod Moving
mod Closing
pub mod Calling
