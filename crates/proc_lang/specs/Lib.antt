pub mod Scanning
pub mod Writing
pub mod Parsing
pub mod Reading
pub mod Indexes
pub mod Scopes
pub mod Checking
pub mod Answering
