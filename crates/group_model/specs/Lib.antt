pub mod Conditions
pub mod Group
pub mod Division
