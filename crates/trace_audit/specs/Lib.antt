pub mod TextLines
pub mod Forms
pub mod Shown
pub mod Right
pub mod Verdicts
pub mod Watching
