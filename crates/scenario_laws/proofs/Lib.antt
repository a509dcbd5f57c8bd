pub mod PortsNext
pub mod Held
pub mod Gone
pub mod Own
pub mod Sockets
pub mod Kills
pub mod Aborted
pub mod Silent
pub mod FlowByFlow
pub mod PortsKept
pub mod AllPorts
pub mod AllKept
pub mod Deeds
pub mod Acts
pub mod OneTick
pub mod AllTicks
pub mod LastTick
pub mod OneName
pub mod WholeRun
pub mod EachFlow
pub mod AllControlled
pub mod Goes
pub mod AllTurned
pub mod InTurns
mod LowestSlots
pub mod Counted
mod Sent
