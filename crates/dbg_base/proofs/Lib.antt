pub mod PaddedNameLemmas
pub mod WellFormedTrees
pub mod FirstFaults
pub mod Places
mod Rows
mod LineRows
mod JournalRows
mod OrderRows
pub mod CountLemmas
pub mod EliminationLemmas
mod SearchRows
