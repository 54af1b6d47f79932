mod Places
mod Keeps
mod Ticks
