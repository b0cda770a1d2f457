pub mod AppendLemmas
mod BufferLemmas
pub mod ClosedLineLemmas
