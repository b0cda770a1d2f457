pub mod Pieces
pub mod Joins
pub mod Histories
pub mod Widths
