pub mod TreeCodes
pub mod Watches
pub mod Searches
pub mod Detectors
