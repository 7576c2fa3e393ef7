pub mod State
pub mod Effects
pub mod Trace
pub mod Class
pub mod Progress
pub mod Plain
