pub mod Bytes
pub mod ControlBits
pub mod Fields
pub mod Options
pub mod Text
pub mod Canon
pub mod Refusals
