mod Steps
mod Added
