pub mod Histories
pub mod Ledgers
pub mod OneFlow
pub mod Walks
