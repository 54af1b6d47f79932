pub mod Party
pub mod Fault
pub mod Encoding
pub mod Ends
pub mod Words
