pub mod Judgements
pub mod Phases
pub mod Islands
pub mod Exceptions
