-- Texts: lists of UTF-16 units, which of them are well-formed, and how the others are mended.
use Rattle.std.specs.Prelude.{◌≡◌, ℕ, ◌+◌, ◌-◌, ◌==◌, ◌&&◌, ◌||◌, List, Bool, true, not, if◌then◌else◌, ◌++◌, take, drop, slice_index}
use Rattle.std.specs.List.{flat_map}
use Rattle.std.specs.Char.Escape.{encode_utf16}
use Rattle.std.specs.Char.Utf16.{is_high_surrogate, is_low_surrogate, utf16_lossy_chars, has_unpaired_surrogate}
use Rattle.std.specs.Str.{chars, all_scalars}
use Rattle.std.specs.Prelude.{encode_utf8_all}

-- a line feed, at which a row ends
abbrev pub LF : ℕ
LF = 10

-- a carriage return, which belongs to a row's ending where a line feed stands directly behind it
abbrev pub CR : ℕ
CR = 13

abbrev pub is_lf : ℕ → Bool
is_lf u = u == LF

-- the UTF-16 encoding of these characters
abbrev pub utf16 : List ℕ → List ℕ
utf16 cs = flat_map encode_utf16 cs

-- the units of the text with these bytes of UTF-8
abbrev pub utf16_of : List ℕ → List ℕ
utf16_of bytes = utf16 (chars bytes)

-- the text is the UTF-16 encoding of a list of Unicode scalar values
abbrev pub IsWellFormed : List ℕ → Type 0
IsWellFormed t = (cs : List ℕ) × (all_scalars cs ≡ true) × (utf16 cs ≡ t)

-- the same as a test: no surrogate lacks its partner
abbrev pub is_well_formed : List ℕ → Bool
is_well_formed t = not (has_unpaired_surrogate t)

-- the text with U+FFFD in place of each surrogate that lacks its partner
abbrev pub mended : List ℕ → List ℕ
mended t = utf16 (utf16_lossy_chars t)

-- the unit at offset i is a surrogate that lacks its partner: a high one with no low one behind it, or a low one with no
-- high one before it
abbrev pub is_unpaired : List ℕ → ℕ → Bool
is_unpaired t i = (is_high_surrogate (slice_index t i) && not (is_low_surrogate (slice_index t (i + 1))))
    || (is_low_surrogate (slice_index t i) && not (is_high_surrogate (slice_index t (i - 1))))

-- the unit at offset i of the mended text
abbrev pub mended_unit : List ℕ → ℕ → ℕ
mended_unit t i = if is_unpaired t i then 0xFFFD else slice_index t i

-- the bytes in UTF-8 of the mended text
abbrev pub text_of : List ℕ → List ℕ
text_of t = encode_utf8_all (utf16_lossy_chars t)

-- t with its units from offset i up to offset j replaced by s
abbrev pub replaced : List ℕ → ℕ → ℕ → List ℕ → List ℕ
replaced t i j s = take i t ++ s ++ drop j t
