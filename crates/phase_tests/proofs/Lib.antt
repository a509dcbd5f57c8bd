mod Resting
mod Playing
