pub mod UndoneEventLemmas
pub mod PastStateLemmas
pub mod GatheredListLemmas
