pub mod FirstWords
pub mod Digits
pub mod TwoArgumentLemmas
pub mod ProcessNameLemmas
pub mod BreakLines
pub mod ReadPartLemmas
pub mod BreakRequestLemmas
pub mod CommandWordLemmas
pub mod Shapes
pub mod CommandOutcomeLemmas
pub mod Separators
pub mod Batches
pub mod LineRefusals
pub mod GivableBatchLemmas
mod SeatlessLines
