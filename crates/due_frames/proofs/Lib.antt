pub mod Distinct
pub mod Few
pub mod Worlds
pub mod SilentFrames
