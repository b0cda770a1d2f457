pub mod Outcomes
pub mod Remaining
pub mod Reported
pub mod Transcripts
