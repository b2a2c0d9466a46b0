pub mod GroundLemmas
pub mod ShelfLemmas
pub mod BuildLemmas
pub mod LawLemmas
pub mod HandLemmas
pub mod EventLemmas
