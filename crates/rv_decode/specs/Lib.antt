pub mod Fields
pub mod Table
pub mod Opcodes
pub mod Rows
