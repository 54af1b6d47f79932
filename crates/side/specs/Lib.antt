pub mod Table
pub mod Places
pub mod Refused
