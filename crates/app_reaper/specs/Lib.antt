pub mod Lists
pub mod Numbers
pub mod OneCall
pub mod Reaping
pub mod Holding
pub mod Sweeping
