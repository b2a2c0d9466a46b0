pub mod ExtentLemmas
pub mod PointLemmas
pub mod OffsetLemmas
pub mod RowLemmas
pub mod ClipLemmas
pub mod TextLemmas
pub mod WellFormedLemmas
pub mod EndingLemmas
pub mod MendingLemmas
pub mod ExtentParts
pub mod FindLemmas
pub mod CapLemmas
mod MarkRows
mod MoveTable
pub mod MarkLemmas
pub mod MarkListLemmas
pub mod MarkTextLemmas
