pub mod Values
pub mod Cells
pub mod States
pub mod Pins
