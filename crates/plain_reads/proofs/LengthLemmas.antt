-- How many bytes a text has in UTF-16.
use Rattle.std.proofs.Common.{◌≡◌, ℕ, ◌*◌, List, [], ◌∷◌, length, arith}
use Rattle.machine.specs.declared.reads.Encoding.TheVariants.{Utf16Le, Utf16Be}
use Rattle.machine.specs.Encodings.{encode}

pub low_long : (t : List ℕ) → length (encode Utf16Le t) ≡ length t * 2
low_long [] = omega arith
low_long (u ∷ us) = omega (arith, low_long us)

pub high_long : (t : List ℕ) → length (encode Utf16Be t) ≡ length t * 2
high_long [] = omega arith
high_long (u ∷ us) = omega (arith, high_long us)
