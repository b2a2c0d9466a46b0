pub mod SlotLemmas
pub mod TellLemmas
