pub mod BookCallLemmas
pub mod BookUndoLemmas
pub mod BookLoopLemmas
pub mod Entries
pub mod HaltLemmas
