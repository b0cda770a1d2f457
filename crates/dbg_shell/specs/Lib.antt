pub mod Checking
pub mod Crewing
pub mod Jobs
