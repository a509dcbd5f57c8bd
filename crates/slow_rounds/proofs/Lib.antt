pub mod Moves
pub mod Phased
pub mod Stepping
pub mod FirstTurns
pub mod Found
pub mod Slots
pub mod Opens
pub mod Meeting
pub mod LaterTurns
pub mod Refusals
pub mod Emissions
pub mod Collecting
pub mod Aborts
pub mod Openings
pub mod Ready
pub mod Sent
pub mod GivenUp
mod SentRest
mod Kicked
