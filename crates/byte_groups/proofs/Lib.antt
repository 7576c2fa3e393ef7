pub mod LabelLemmas
pub mod LeafLemmas
pub mod GatherLemmas
pub mod DealLemmas
pub mod FinalLemmas
