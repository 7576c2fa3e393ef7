pub mod Ranges
pub mod Writes
pub mod Starts
pub mod Heaps
