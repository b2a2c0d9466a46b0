-- Texts that come in parts. A high surrogate at the end of a part waits for its partner in the next.
use Rattle.std.specs.Prelude.{ℕ, ◌-◌, ◌≡◌, List, [], ◌∷◌, ◌++◌, length, take, slice_index, Option, Some, None, is_some, if◌then◌else◌}
use Rattle.std.specs.Option.{option_to_list}
use Rattle.std.specs.Char.Utf16.{is_high_surrogate, is_low_surrogate}
use Rattle.points.specs.Text.{IsWellFormed}
use Rattle.machine.specs.declared.reads.Encoding.{Encoding}
use Rattle.machine.specs.Encodings.{encode}

-- an encoding, and the high surrogate that waits, if one does
pub record Partway : Type 0 where
  pub encoding : Encoding
  pub waits : Option ℕ

-- the high surrogate at the end of a text, if one stands there
abbrev pub waiting : List ℕ → Option ℕ
waiting t = let u = slice_index t (length t - 1) in if is_high_surrogate u then Some u else None

-- the text without it: its characters are all complete
abbrev pub completed : List ℕ → List ℕ
completed t = take (length t - length (option_to_list (waiting t))) t

-- a high surrogate that waits, and the units behind it
abbrev pub behind : Option ℕ → List ℕ → List ℕ
behind waits units = option_to_list waits ++ units

-- the text begins a well-formed one
abbrev pub IsFront : List ℕ → Type 0
IsFront t = (rest : List ℕ) × IsWellFormed (t ++ rest)

-- one more unit fits: a low surrogate exactly where a high one waits
abbrev pub fits_behind : Option ℕ → ℕ → Type 0
fits_behind waits u = is_some waits ≡ is_low_surrogate u

-- the bytes that one more unit completes, and the high surrogate that then waits
abbrev pub unit_bytes : Partway → ℕ → List ℕ
unit_bytes p u = if is_high_surrogate u then [] else encode p.encoding (behind p.waits (u ∷ []))

abbrev pub unit_waits : ℕ → Option ℕ
unit_waits u = if is_high_surrogate u then Some u else None
