pub mod Age
pub mod Passing
pub mod Rate
pub mod Serves
