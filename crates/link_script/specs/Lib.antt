pub mod LinkLines
pub mod Emitted
pub mod DueFrames
pub mod Coming
