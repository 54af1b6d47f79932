pub mod Basics
mod Backing
pub mod Invariant
mod Moves
mod Steps
pub mod Every
pub mod Main
mod Ending
mod Sent
pub mod Whole
mod Example
mod Rows
