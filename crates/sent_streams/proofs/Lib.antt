pub mod Sent
pub mod Stays
pub mod Steps
pub mod Taken
pub mod Spending
pub mod Ending
