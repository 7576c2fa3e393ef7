pub mod Narrow
pub mod Tried
pub mod Lanes
pub mod Table
