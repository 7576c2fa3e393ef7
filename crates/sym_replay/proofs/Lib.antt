pub mod ValueLemmas
pub mod CellLemmas
pub mod StateLemmas
pub mod PinLemmas
pub mod RunLemmas
pub mod HeapLemmas
