pub mod Notes
pub mod Delivery
