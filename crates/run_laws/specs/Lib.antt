pub mod WorkedHosts
pub mod WorkedFrames
pub mod WorkedRecords
pub mod WorkedRest
