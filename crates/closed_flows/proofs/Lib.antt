pub mod Done
pub mod Silent
pub mod AllStill
