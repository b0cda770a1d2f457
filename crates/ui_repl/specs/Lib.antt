pub mod LineSources
pub mod Talks
pub mod Expected
pub mod PlainLines
pub mod ReadLines
