pub mod Phased
