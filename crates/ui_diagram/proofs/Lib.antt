pub mod LogLemmas
mod LogRows
