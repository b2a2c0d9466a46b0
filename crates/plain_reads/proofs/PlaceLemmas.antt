-- Points of byte offsets between characters, and how they follow one another.
use Rattle.std.proofs.Common.{◌≡◌, ℕ, zero, suc, ◌+◌, ◌-◌, ◌<◌, ◌≤◌, List, [], ◌∷◌, ◌++◌, length, take, drop, get_or, IsUtf8, IsCharBoundary, chars, slice_range, sym, ap, subst, ◌∙◌, arith, length-append, append-nil, take-append-drop}
use Rattle.std.specs.Char.Escape.{encode_utf16}
use Rattle.std.proofs.lemmas.Str.{IsUtf8-take, chars-nil, chars-append}
use Rattle.std.proofs.lemmas.Bool.Decides.{nat_tests}
use Rattle.std.proofs.lemmas.List.{drop-take, drop_more, take-take}
use Rattle.points.specs.declared.point.Point.{Point}
use Rattle.points.specs.Point.{IsWithin, origin, traverse}
use Rattle.points.specs.Text.{utf16, utf16_of}
use Rattle.points.specs.Place.{extent}
use Rattle.points.proofs.PointLemmas.{traverse_assoc}
use Rattle.points.proofs.ExtentLemmas.{extent-append}
use Rattle.points.proofs.ExtentParts.{extent_within}
use Rattle.points.proofs.TextLemmas.{utf16-append}
use Rattle.machine.specs.Answers.{point_of_byte}
use Rattle.outer.specs.Matcher.{AreHitsFrom}

-- where a point leads over an extent, as far as both count
pub traverse_within : (a b m : ℕ) (p e : Point) → IsWithin a p → IsWithin b e → a + b ≤ m → IsWithin m (traverse p e)
traverse_within a b m p e start reach fits = record { row = grind (arith, nat_tests, start.row, reach.row, start.column); column = grind (arith, nat_tests, start.column, reach.column, start.row) }

-- one character more
pub led_char : (p : Point) (cs : List ℕ) (c : ℕ) → traverse (traverse p (extent (utf16 cs))) (extent (encode_utf16 c)) ≡ traverse p (extent (utf16 (cs ++ c ∷ [])))
led_char p cs c = traverse_assoc p (extent (utf16 cs)) (extent (encode_utf16 c))
    ∙ ap (traverse p) (sym (extent-append (utf16 cs) (encode_utf16 c)) ∙ ap extent (ap (λ (xs : List ℕ). utf16 cs ++ xs) (sym (append-nil (encode_utf16 c))) ∙ sym (utf16-append cs (c ∷ []))))

-- texts in a row
pub utf16_of-append : (a b : List ℕ) → IsUtf8 a → utf16_of (a ++ b) ≡ utf16_of a ++ utf16_of b
utf16_of-append a b text = ap utf16 (chars-append a b text) ∙ utf16-append (chars a) (chars b)

-- a text cut at two places between characters
pub record IsBetween (text : List ℕ) (i j : ℕ) : Type 0 where
  pub units : utf16_of (take j text) ≡ utf16_of (take i text) ++ utf16_of (slice_range text i j)
  pub few : length (utf16_of (take j text)) ≤ length (utf16_of text)

pub is_between : (text : List ℕ) (i j : ℕ) → IsUtf8 text → i ≤ j → IsCharBoundary text i → IsCharBoundary text j → IsBetween text i j
is_between text i j word order start end = record {
  units = ap utf16_of whole ∙ utf16_of-append (take i text) (slice_range text i j) (IsUtf8-take text i word start);
  few = omega (arith, ap length (ap utf16_of (sym (take-append-drop j text)) ∙ utf16_of-append (take j text) (drop j text) (IsUtf8-take text j word end)), length-append (utf16_of (take j text)) (utf16_of (drop j text)));
}
  where
    whole : take j text ≡ take i text ++ slice_range text i j
    whole = let e : i + (j - i) ≡ j = omega arith in
        sym (take-append-drop i (take j text)) ∙ (ap (λ (xs : List ℕ). xs ++ drop i (take j text)) (take-take i j text order)
        ∙ ap (λ (xs : List ℕ). take i text ++ xs) (ap (λ (k : ℕ). drop i (take k text)) (sym e) ∙ drop-take i (j - i) text))

pub point_of_later : (text : List ℕ) (i j : ℕ) → IsBetween text i j → point_of_byte text j ≡ traverse (point_of_byte text i) (extent (utf16_of (slice_range text i j)))
point_of_later text i j h = ap extent h.units ∙ extent-append (utf16_of (take i text)) (utf16_of (slice_range text i j))

-- the first of some hits are hits
pub AreHitsFrom-take : (text : List ℕ) (at n : ℕ) (hs : List (ℕ × ℕ)) → AreHitsFrom text at hs → AreHitsFrom text at (take n hs)
AreHitsFrom-take text at zero hs h = tt
AreHitsFrom-take text at (suc n) [] h = tt
AreHitsFrom-take text at (suc n) (s ∷ ss) h = (h.0, h.1, h.2, h.3, AreHitsFrom-take text s.1 n ss h.4)

-- what a step from one place between characters to a later one needs and gives
pub record IsStep (text : List ℕ) (limit i j : ℕ) : Type 0 where
  pub near : IsWithin limit (point_of_byte text i)
  pub short : length (utf16_of (slice_range text i j)) ≤ limit
  pub point : point_of_byte text j ≡ traverse (point_of_byte text i) (extent (utf16_of (slice_range text i j)))

pub is_step : (text : List ℕ) (limit i j : ℕ) → IsUtf8 text → i ≤ j → IsCharBoundary text i → IsCharBoundary text j → length (utf16_of text) ≤ limit → IsStep text limit i j
is_step text limit i j word order start end within = let h = is_between text i j word order start end in record {
  near = extent_within (utf16_of (take i text)) limit (omega (arith, (is_between text i i word (omega arith) start start).few, within));
  short = omega (arith, h.few, within, ap length h.units, length-append (utf16_of (take i text)) (utf16_of (slice_range text i j)));
  point = point_of_later text i j h;
}

pub point_of_start : (text : List ℕ) → origin ≡ point_of_byte text 0
point_of_start text = ap (λ (cs : List ℕ). extent (utf16 cs)) (sym chars-nil)

-- the next hit
pub next_hit : (text : List ℕ) (at i : ℕ) (hs : List (ℕ × ℕ)) → i < length hs → AreHitsFrom text at (drop i hs) → AreHitsFrom text at (get_or hs i (0, 0) ∷ drop (i + 1) hs)
next_hit text at i hs within h = subst (AreHitsFrom text at) (drop_more hs i (0, 0) within) h
