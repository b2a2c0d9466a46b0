-- What a reader shows.
use Rattle.std.specs.Prelude.{ℕ, List}

-- a text with its version
pub record VersionedText : Type 0 where
  pub text : List ℕ
  pub version : ℕ
