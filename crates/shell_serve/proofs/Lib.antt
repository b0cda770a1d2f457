mod ReadStepLemmas
mod LineEnds
mod UnfinishedInputLemmas
mod TextSplitLemmas
pub mod ProgramTextLemmas
pub mod KnownInputLemmas
mod CommandReplyLemmas
mod AnswerStepLemmas
pub mod SessionLemmas
mod InputSessionLemmas
mod RunLemmas
mod SeatLemmas
mod InputSourceLemmas
mod AskedOnce
mod OutputLineLemmas
mod OneOutput
mod TranscriptOutput
