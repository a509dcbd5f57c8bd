mod Handing
mod Posts
mod Zipped
