-- The UTF-16 encoding of texts in a row.
use Rattle.std.proofs.Common.{◌≡◌, ℕ, ◌+◌, ◌-◌, ◌≤◌, List, ◌++◌, length, take, drop, arith, length-append, length-drop, length-take-le}
use Rattle.std.proofs.lemmas.Grind.{flat_map-append}
use Rattle.std.specs.Char.Escape.{encode_utf16}
use Rattle.points.specs.Text.{utf16, replaced}

pub utf16-append : (xs ys : List ℕ) → utf16 (xs ++ ys) ≡ utf16 xs ++ utf16 ys
utf16-append xs ys = flat_map-append encode_utf16 xs ys

-- the length of a text in which units were replaced
pub length-replaced : (t : List ℕ) (i j : ℕ) (s : List ℕ) → i ≤ j → j ≤ length t → length (replaced t i j s) + (j - i) ≡ length t + length s
length-replaced t i j s order within = omega (arith, length-append (take i t ++ s) (drop j t), length-append (take i t) s, length-take-le i t (omega arith), length-drop j t)
