pub mod TokenCounts
pub mod Expansions
