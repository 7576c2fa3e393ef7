pub mod TreeLemmas
pub mod KeyLemmas
pub mod PushLemmas
pub mod SharedLemmas
pub mod NetLemmas
pub mod RuleLemmas
pub mod GrowthLemmas
pub mod NamedLemmas
