pub mod Lists
pub mod Firsts
pub mod Groups
pub mod Division
pub mod Unique
pub mod Reading
pub mod Parts
pub mod Stays
