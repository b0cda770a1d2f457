mod BoardPairLemmas
mod EnteredCallLemmas
mod CallMatchLemmas
mod SeatShareLemmas
mod RecordLemmas
mod KeptCallLemmas
mod JournalSearchLemmas
mod SettleLemmas
mod ScanLemmas
pub mod SendableEntryLemmas
mod Turns
mod BarredWorkerLemmas
mod SendableWorkerLemmas
