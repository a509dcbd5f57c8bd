pub mod ByMoves
pub mod AllRuns
pub mod WorkedRuns
pub mod AllBelow
