pub mod MaskLemmas
pub mod FileLemmas
pub mod ClassLemmas
pub mod ConditionLemmas
pub mod LawLemmas
pub mod GroupLemmas
pub mod RangeLemmas
