pub mod StepLemmas
pub mod WatchLemmas
pub mod SpliceLemmas
