pub mod FitLemmas
pub mod ApplyLemmas
pub mod MergeSteps
pub mod MergeLemmas
mod ComposedRows
