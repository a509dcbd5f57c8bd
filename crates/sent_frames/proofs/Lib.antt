pub mod Numbered
pub mod Ticks
pub mod Starting
pub mod Addresses
pub mod Answering
pub mod Paced
pub mod Packets
