pub mod Pins
pub mod Acting
pub mod Calling
pub mod Waiting
pub mod Answering
pub mod Receiving
pub mod Ends
mod Apart
mod Openings
