pub mod WordLemmas
pub mod ZeroLemmas
pub mod SameLemmas
pub mod PlaceLemmas
pub mod HoldLemmas
pub mod ByteLemmas
