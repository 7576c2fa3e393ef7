pub mod Labels
pub mod Joined
pub mod Gathered
pub mod Dealt
pub mod Grouped
