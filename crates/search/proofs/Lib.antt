pub mod MendLemmas
pub mod PlaceLemmas
pub mod SpellLemmas
pub mod LiteralLemmas
pub mod FindLemmas
pub mod CopyLemmas
