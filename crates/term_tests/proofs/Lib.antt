pub mod OperandLemmas
pub mod ReadableLemmas
