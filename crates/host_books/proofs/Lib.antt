pub mod Orders
pub mod Indexing
pub mod Merging
pub mod Telling
pub mod Ticks
mod AloneCalls
pub mod Gathering
pub mod Leaving
