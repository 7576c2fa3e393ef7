pub mod TriedLemmas
pub mod ValueLemmas
pub mod GroupLemmas
pub mod LaneLemmas
