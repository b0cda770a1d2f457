pub mod LaneLemmas
pub mod ReasonLemmas
pub mod MarkLemmas
pub mod PartLemmas
