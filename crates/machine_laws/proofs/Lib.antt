pub mod Blind
pub mod Words
pub mod Bytes
pub mod Steps
pub mod Starts
pub mod Exits
pub mod Traps
