mod Mapped
mod Connecting
