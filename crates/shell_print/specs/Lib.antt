pub mod Outcomes
pub mod Writing
pub mod Pieces
pub mod Questions
pub mod Closings
