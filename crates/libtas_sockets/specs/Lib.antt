pub mod Apps
pub mod Answers
pub mod Calling
pub mod Accepting
pub mod Connecting
pub mod Opening
pub mod Ending
