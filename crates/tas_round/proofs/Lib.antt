pub mod Lending
pub mod Flowing
pub mod Playing
pub mod Summing
pub mod HostEnds
pub mod CoresPlaying
