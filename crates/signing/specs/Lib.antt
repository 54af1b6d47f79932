pub mod Scheme
pub mod Checks
pub mod Authored
