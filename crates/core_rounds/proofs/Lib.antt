pub mod CoresFrames
pub mod CoresRounds
pub mod SharedRounds
pub mod Filters
pub mod Shares
