pub mod Healths
pub mod Lines
pub mod Outputs
pub mod Seen
