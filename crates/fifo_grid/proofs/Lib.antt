pub mod Cells
pub mod RestoredChannelLemmas
