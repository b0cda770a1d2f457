pub mod CountLemmas
pub mod CutBoundLemmas
pub mod PositionListLemmas
pub mod LoweredCutLemmas
pub mod PositionLemmas
pub mod RaisedCutLemmas
pub mod Rooms
pub mod NotedEventLemmas
