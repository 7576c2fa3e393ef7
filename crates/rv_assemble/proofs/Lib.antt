pub mod Appends
pub mod Sums
pub mod Readback
pub mod Ready
pub mod Texts
pub mod DemoLemmas
