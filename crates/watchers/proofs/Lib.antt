pub mod CoveredLemmas
pub mod RunLemmas
pub mod KnownLemmas
pub mod LastLemmas
pub mod PairLemmas
