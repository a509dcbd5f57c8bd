pub mod Hosts
pub mod Leading
pub mod Moving
pub mod Opening
pub mod Ending
pub mod Leaving
pub mod Sound
pub mod Counting
