pub mod Derived
pub mod PackedLemmas
pub mod SameLemmas
