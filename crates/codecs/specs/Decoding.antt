-- The text that bytes are read as, in each encoding.
use Rattle.std.specs.Prelude.{ℕ, ◌+◌, ◌*◌, Bool, true, false, if◌then◌else◌, List, [], ◌∷◌}
use Rattle.bstr.specs.Utf8.{lossy_chars}
use Rattle.points.specs.Text.{utf16, mended}
use Rattle.machine.specs.declared.reads.Encoding.{Encoding}
use Rattle.machine.specs.declared.reads.Encoding.TheVariants.{Utf8, Utf16Le, Utf16Be, Latin1}

-- the unit of two bytes, the low one first or the high one first
abbrev pub unit_of : Bool → ℕ → ℕ → ℕ
unit_of low_first b c = if low_first then b + 256 * c else 256 * b + c

-- the units of bytes that are taken two by two; a last odd byte gives U+FFFD
abbrev pub paired : (ℕ → ℕ → ℕ) → List ℕ → List ℕ
paired unit [] = []
paired unit (b ∷ []) = 0xFFFD ∷ []
paired unit (b ∷ c ∷ bs) = unit b c ∷ paired unit bs

-- the text of these bytes: of UTF-8 with U+FFFD for each piece that is no character, of UTF-16 with U+FFFD for each
-- surrogate that lacks its partner, of Latin-1 with one character a byte
abbrev pub decoded : Encoding → List ℕ → List ℕ
decoded Utf8 bytes = utf16 (lossy_chars bytes)
decoded Utf16Le bytes = mended (paired (unit_of true) bytes)
decoded Utf16Be bytes = mended (paired (unit_of false) bytes)
decoded Latin1 bytes = bytes
