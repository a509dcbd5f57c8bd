mod Polls
mod Waits
