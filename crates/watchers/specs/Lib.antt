pub mod Counters
pub mod Pairs
