pub mod Dropped
pub mod JudgedLemmas
pub mod GatherLemmas
pub mod LinkLemmas
