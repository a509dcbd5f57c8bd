pub mod CoreTicks
pub mod SharedTicks
pub mod Shares
