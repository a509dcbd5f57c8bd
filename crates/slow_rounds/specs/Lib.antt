pub mod SoFar
pub mod Rests
pub mod Sending
pub mod Collecting
pub mod Aborting
pub mod Opening
