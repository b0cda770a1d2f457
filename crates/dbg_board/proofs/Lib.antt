pub mod PairListLemmas
pub mod WordStepLemmas
