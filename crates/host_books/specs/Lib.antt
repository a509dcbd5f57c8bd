pub mod Books
pub mod Deeds
pub mod Indexes
pub mod Words
pub mod Tries
pub mod Leavings
pub mod Ticks
