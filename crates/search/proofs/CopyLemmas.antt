-- Texts of ASCII as bytes, and pieces of a text put one behind the other.
use Rattle.std.proofs.Common.{◌≡◌, ℕ, suc, ◌+◌, ◌-◌, ◌<◌, ◌≤◌, List, [], ◌∷◌, ◌++◌, length, map, min, Option, Some, unwrap_or, Bool, true, false, cond, IsAscii, refl, sym, ap, ◌∙◌, arith, slice_range, append_assoc, append-nil}
use Rattle.std.specs.Prelude.{encode_utf8_all}
use Rattle.std.specs.Char.Utf16.{utf16_chars, utf16_lossy_chars, lone_unit_char}
use Rattle.std.proofs.lemmas.Str.{utf16_chars-nil, utf16_chars_lone, encodes-IsAscii}
use Rattle.std.proofs.lemmas.Bool.Decides.{nat_tests}
use Rattle.points.specs.declared.point.Point.{Point}
use Rattle.points.specs.Text.{text_of}
use Rattle.points.specs.Point.{origin}
use Rattle.points.specs.Place.{extent, splits_pair, line_of, clipped_column, clipped_offset, row_start}
use Rattle.points.proofs.ClipLemmas.{clipped_offset_in, clipped_offset_past}
use Rattle.chains.proofs.EditLemmas.{slice_whole}

plain_unit : (u : ℕ) → u < 128 → lone_unit_char u ≡ Some u
plain_unit u h = grind (arith, nat_tests)

plain_chars : (t : List ℕ) → IsAscii t → utf16_lossy_chars t ≡ t
plain_chars [] h = ap (map (λ (o : Option ℕ). unwrap_or o 0xFFFD)) utf16_chars-nil
plain_chars (u ∷ us) h = ap (map (λ (o : Option ℕ). unwrap_or o 0xFFFD))
    (utf16_chars_lone u us (λ pair. omega (arith, pair.0, h 0)) ∙ ap (λ (o : Option ℕ). o ∷ utf16_chars us) (plain_unit u (h 0)))
    ∙ ap (λ (xs : List ℕ). u ∷ xs) (plain_chars us (λ i. h (suc i)))

-- the bytes of a text of ASCII are its units
pub text_of_plain : (t : List ℕ) → IsAscii t → text_of t ≡ t
text_of_plain t h = ap encode_utf8_all (plain_chars t h) ∙ encodes-IsAscii t h

-- the whole text, by its first point and one behind its last
by_split : (b : Bool) (k : ℕ) → k ≤ 0 → cond b (k - 1) k ≡ 0
by_split true k le = omega arith
by_split false k le = omega arith

zero_plus : (n m : ℕ) → n ≡ 0 → m ≡ 0 → n + m ≡ 0
zero_plus n m e f = omega (arith, e, f)

start_offset : (t : List ℕ) → clipped_offset t origin ≡ 0
start_offset t = clipped_offset_in t origin (omega arith) ∙ zero_plus (row_start t 0) (clipped_column (line_of t 0) 0) refl
    (by_split (splits_pair (line_of t 0) (min 0 (length (line_of t 0)))) (min 0 (length (line_of t 0))) (omega arith))

pub whole_range : (t : List ℕ) (p : Point) → (extent t).row < p.row → slice_range t (clipped_offset t origin) (clipped_offset t p) ≡ t
whole_range t p past = ap (λ (k : ℕ). slice_range t k (clipped_offset t p)) (start_offset t) ∙ (ap (λ (k : ℕ). slice_range t 0 k) (clipped_offset_past t p past) ∙ slice_whole t (length t) refl)

-- the next piece, behind those before it
pub next_piece : (before old piece new text : List ℕ) → before ++ old ≡ text → old ≡ piece ++ new → (before ++ piece) ++ new ≡ text
next_piece before old piece new text whole next = append_assoc before piece new ∙ (ap (λ (xs : List ℕ). before ++ xs) (sym next) ∙ whole)

pub last_piece : (before old text : List ℕ) → before ++ old ≡ text → old ≡ [] → before ≡ text
last_piece before old text whole none = sym (append-nil before) ∙ (ap (λ (xs : List ℕ). before ++ xs) (sym none) ∙ whole)
