pub mod Addresses
pub mod Pairs
pub mod Kept
pub mod Order
pub mod Accepted
pub mod SymbolLemmas
