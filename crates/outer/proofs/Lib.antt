pub mod Counts
pub mod Given
pub mod Appended
pub mod HitLemmas
pub mod MatchLemmas
pub mod PutLemmas
pub mod SoundLemmas
mod Entries
pub mod Files
pub mod Kept
