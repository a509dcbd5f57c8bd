pub mod Alone
pub mod Releasing
pub mod Reaping
pub mod Accepting
pub mod Acceptances
pub mod Listening
pub mod Places
pub mod Closing
pub mod Connecting
mod Counted
