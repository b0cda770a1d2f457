pub mod DialogueLemmas
pub mod NamedLemmas
pub mod StyleLemmas
pub mod ValueLemmas
