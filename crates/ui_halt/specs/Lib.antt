pub mod Lanes
pub mod Reasons
pub mod Parts
pub mod Marks
