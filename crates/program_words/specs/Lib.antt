pub mod Words
pub mod Requests
pub mod Faults
pub mod Command
pub mod Canonical
pub mod Found
pub mod Audits
