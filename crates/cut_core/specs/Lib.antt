pub mod Kinds
pub mod Tallies
pub mod ConsistentCuts
pub mod Places
