pub mod Causes
pub mod Judging
pub mod Puts
pub mod Audited
