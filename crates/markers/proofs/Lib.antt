pub mod HitLemmas
pub mod EndLemmas
pub mod MoveLemmas
pub mod SearchLemmas
pub mod IndexLemmas
