mod PutLemmas
mod FilledLemmas
mod MadeLemmas
pub mod RunLemmas
