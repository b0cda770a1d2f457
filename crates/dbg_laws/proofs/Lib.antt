pub mod Lists
pub mod Moves
pub mod OrderSwapLemmas
pub mod PlayLemmas
pub mod PrefixLemmas
pub mod ChannelSizeLemmas
pub mod LastChoiceLemmas
pub mod UndoLemmas
pub mod ChannelBalanceLemmas
pub mod MessageCounts
pub mod ConsistentCutLemmas
pub mod UndoneCutLemmas
pub mod LineStates
pub mod BestListLemmas
pub mod CutDecisionLemmas
pub mod CutLatticeLemmas
pub mod ReachedStateLemmas
pub mod OneOutcome
pub mod ExistenceLemmas
pub mod AnswerFitLemmas
pub mod DueAnswerLemmas
pub mod LegalJournalLemmas
pub mod EffectiveOrderLemmas
pub mod OneAnswer
pub mod ClosedSetLemmas
pub mod ForwardLemmas
pub mod LastEventLemmas
pub mod CausalPastLemmas
pub mod ReplayLemmas
pub mod AloneLemmas
pub mod SomeReplay
pub mod FrontierLemmas
pub mod SetBreakpointLemmas
pub mod SomeAnswer
pub mod ReceiverLemmas
pub mod StopLemmas
pub mod ShownAnswers
pub mod NextReplayLemmas
pub mod NextJournalLemmas
pub mod BreakpointLemmas
pub mod NextStageLemmas
pub mod TranscriptLemmas
pub mod ChannelStepLemmas
pub mod MessageLemmas
mod ReferenceRows
mod ChangedReferenceRows
mod ChangedSessionRows
mod ChangedNotionRows
mod TranscriptRows
