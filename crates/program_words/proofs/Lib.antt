pub mod Asked
pub mod Found
pub mod Spelling
pub mod Takes
