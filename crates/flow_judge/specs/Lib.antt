pub mod Trials
pub mod Making
pub mod Judging
