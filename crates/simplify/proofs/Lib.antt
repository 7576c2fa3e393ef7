pub mod ByteLemmas
pub mod EqualityLemmas
pub mod StepLemmas
