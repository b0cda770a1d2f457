pub mod ProcessTrees
pub mod Programs
pub mod Bounds
