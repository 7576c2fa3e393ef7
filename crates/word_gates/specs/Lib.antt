pub mod Lits
pub mod Places
