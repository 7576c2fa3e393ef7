pub mod Counted
pub mod Errors
pub mod Made
