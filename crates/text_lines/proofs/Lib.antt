pub mod DigitLemmas
pub mod Cuts
pub mod LineLemmas
pub mod FormLaws
