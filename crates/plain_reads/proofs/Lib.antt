pub mod MendLemmas
pub mod PlaceLemmas
pub mod FindLemmas
pub mod SearchLemmas
pub mod LengthLemmas
