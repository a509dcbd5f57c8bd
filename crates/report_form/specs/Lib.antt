pub mod Reports
pub mod Places
