mod Agreement
pub mod Held
mod Agreeing
mod Extended
mod Moved
mod Stepping
mod Pinned
mod Told
mod Steps
mod Aligned
pub mod Kept
mod Start
pub mod Runs
mod Proper
