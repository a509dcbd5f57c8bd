pub mod Beginnings
pub mod WorkedProgress
pub mod WorkedReceiving
pub mod WorkedEndings
pub mod WorkedReading
pub mod WorkedShifts
