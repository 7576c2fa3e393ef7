pub mod Stack
pub mod Names
pub mod Rows
pub mod Text
