pub mod Requests
pub mod Faults
pub mod Files
pub mod Reads
pub mod Sinks
