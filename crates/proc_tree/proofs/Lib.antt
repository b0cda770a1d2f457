pub mod ProcessSearchLemmas
