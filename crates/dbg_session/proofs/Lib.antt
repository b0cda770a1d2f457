pub mod Stacks
pub mod StackUndoLemmas
pub mod AnswerFitLemmas
