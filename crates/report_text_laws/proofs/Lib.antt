pub mod SetLines
pub mod Lines
pub mod Failing
pub mod Lengths
