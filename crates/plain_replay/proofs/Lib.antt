pub mod MoveLemmas
pub mod SeatLemmas
pub mod StandingLemmas
pub mod WholeLemmas
pub mod FollowLemmas
pub mod CallLemmas
pub mod SoundLemmas
pub mod EditLemmas
