mod Computed
mod OneByOne
