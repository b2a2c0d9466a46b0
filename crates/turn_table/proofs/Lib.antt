mod Seats
pub mod HistoryLemmas
mod MineLemmas
mod FrameLemmas
mod LockLemmas
mod DecideLemmas
mod SplitLemmas
mod JoinLemmas
mod HoldLemmas
mod CallLemmas
mod OpenLemmas
pub mod DeskLemmas
mod FreeLemmas
pub mod GivenLemmas
