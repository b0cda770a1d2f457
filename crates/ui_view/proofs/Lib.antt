pub mod FiringLemmas
