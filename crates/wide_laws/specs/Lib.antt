pub mod Formula
pub mod Bytes
pub mod Sets
pub mod Roots
