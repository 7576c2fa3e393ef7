pub mod CloserLemmas
pub mod ReachedLemmas
pub mod TrimLemmas
pub mod LoopLemmas
pub mod SolveLemmas
