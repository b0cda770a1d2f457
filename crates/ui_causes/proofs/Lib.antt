pub mod WriteLemmas
pub mod CausalPastLemmas
pub mod UndoingLemmas
