-- The bytes of a text in each encoding.
use Rattle.std.specs.Prelude.{ℕ, ◌/◌, ◌%◌, nat_le, List, [], ◌∷◌, map, if◌then◌else◌}
use Rattle.std.specs.List.{flat_map}
use Rattle.std.specs.Char.Utf16.{utf16_lossy_chars}
use Rattle.points.specs.Text.{text_of}
use Rattle.machine.specs.declared.reads.Encoding.{Encoding}
use Rattle.machine.specs.declared.reads.Encoding.TheVariants.{Utf8, Utf16Le, Utf16Be, Latin1}

-- a unit, the low byte first or the high byte first
abbrev pub low_first : ℕ → List ℕ
low_first u = u % 256 ∷ u / 256 ∷ []

abbrev pub high_first : ℕ → List ℕ
high_first u = u / 256 ∷ u % 256 ∷ []

-- a character as one byte: a question mark stands for one above U+00FF
abbrev pub latin1_byte : ℕ → ℕ
latin1_byte c = if nat_le c 255 then c else 63

-- the bytes of a text, which is well-formed, in this encoding
abbrev pub encode : Encoding → List ℕ → List ℕ
encode Utf8 t = text_of t
encode Utf16Le t = flat_map low_first t
encode Utf16Be t = flat_map high_first t
encode Latin1 t = map latin1_byte (utf16_lossy_chars t)
