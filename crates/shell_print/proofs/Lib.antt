pub mod WriteLemmas
pub mod PairLemmas
pub mod CountLemmas
pub mod QuestionLemmas
pub mod DigitLemmas
