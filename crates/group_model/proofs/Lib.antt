pub mod HoldLemmas
pub mod Gathered
