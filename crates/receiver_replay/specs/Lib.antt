pub mod Errors
pub mod Difference
pub mod Received
pub mod Right
