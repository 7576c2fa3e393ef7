pub mod Bytes
pub mod Sound
pub mod Traces
