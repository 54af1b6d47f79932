pub mod World
pub mod Promise
pub mod Example
pub mod Rows
