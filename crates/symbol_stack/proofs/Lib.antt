pub mod TextLemmas
pub mod NameLemmas
pub mod RowLemmas
pub mod StackLemmas
