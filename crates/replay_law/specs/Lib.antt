pub mod Making
pub mod Forms
pub mod Terms
pub mod Follow
pub mod Crash
