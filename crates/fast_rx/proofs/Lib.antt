pub mod Placing
pub mod Acknowledging
pub mod Growing
pub mod Joining
pub mod Islands
pub mod Taking
