pub mod Ends
pub mod Origins
pub mod WorkedEnds
