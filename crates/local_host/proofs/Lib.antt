pub mod Taken
pub mod Growth
pub mod Asking
pub mod Emitting
pub mod Fitting
pub mod Places
pub mod Hosting
mod Shifts
pub mod Indexing
pub mod Slots
pub mod Standing
pub mod Records
pub mod Staging
pub mod Serving
pub mod Recording
mod InTurn
mod CoreRecording
mod LaneWork
mod LaneLists
mod OwnCores
mod HandingOut
mod SeenFrames
mod Trying
mod CoreTaking
mod Halves
pub mod Timing
pub mod Sleeping
pub mod Waking
pub mod Ports
pub mod Holding
pub mod Given
pub mod Searching
pub mod FastSegments
pub mod Acting
pub mod OfCores
