pub mod TalkLemmas
pub mod PlainLineLemmas
mod PlainLineRows
