pub mod ViewLemmas
pub mod LookUpLemmas
pub mod CopyLemmas
pub mod ListLemmas
pub mod GapLists
pub mod SearchLemmas
pub mod SortLemmas
mod SmallTexts
pub mod Pieces
pub mod PatchPieces
pub mod ShownPieces
pub mod SurvivorLemmas
pub mod FillLemmas
pub mod SplicePieces
pub mod AbsorbLemmas
pub mod StretchLemmas
pub mod StretchPieces
pub mod MovedLemmas
mod MovedRows
pub mod GapPieces
pub mod SpliceLemmas
pub mod AbsorbSteps
pub mod JointLemmas
pub mod SpliceSteps
pub mod SpliceResult
pub mod StandLemmas
pub mod RunLemmas
pub mod CountLemmas
