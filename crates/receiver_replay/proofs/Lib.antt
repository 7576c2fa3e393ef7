pub mod DifferenceLemmas
pub mod TextLemmas
pub mod LimitLemmas
pub mod AcceptedLemmas
pub mod RightLemmas
pub mod CompareLemmas
pub mod ReplayLemmas
