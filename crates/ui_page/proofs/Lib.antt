pub mod PageLineLemmas
