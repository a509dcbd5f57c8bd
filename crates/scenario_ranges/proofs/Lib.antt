pub mod Numbers
pub mod HostOptions
pub mod LineForms
pub mod Readings
pub mod Drafts
