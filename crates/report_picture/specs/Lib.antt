pub mod Known
pub mod Rows
pub mod Hosts
pub mod Forms
pub mod Stages
pub mod Flows
pub mod Pictures
pub mod Reading
