pub mod Lists
pub mod Back
pub mod Heard
pub mod Frames
pub mod Worlds
pub mod Ends
pub mod Texts
pub mod Origins
pub mod WorkedEnds
mod Faithful
