pub mod LogLines
pub mod Told
pub mod Audited
pub mod WorkedAudits
