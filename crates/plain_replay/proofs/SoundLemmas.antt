-- The marks of a text stay marks of it, and not too many, whatever a call makes of them.
use Rattle.std.proofs.Common.{◌≡◌, ℕ, ◌+◌, ◌<◌, ◌≤◌, Bool, true, false, cond, List, [], ◌∷◌, map, length, not, ◌==◌, nat_lt, refl, sym, ap, ◌∙◌, subst, arith, length-append}
use Rattle.std.specs.List.{All, filter}
use Rattle.std.proofs.lemmas.Bool.Decides.{nat_tests}
use Rattle.std.proofs.lemmas.List.{length-map}
use Rattle.std.proofs.lemmas.List.Elements.{All-cons, All-append, All-filter, All-map, All-weaker}
use Rattle.std.proofs.lemmas.List.Sums.{length-filter, count_by-le-length}
use Rattle.points.specs.declared.point.Point.{Point}
use Rattle.points.specs.declared.mark.Mark.{Mark}
use Rattle.points.specs.declared.mark.Splice.{Splice}
use Rattle.points.specs.declared.limits.TheConstants.{MAX_UNITS, MAX_MARKS, MAX_COORD}
use Rattle.points.specs.Text.{replaced}
use Rattle.points.specs.Place.{point_at, clip, clipped_offset}
use Rattle.points.specs.MarkText.{IsPointOf, IsMarkOf, splice_in}
use Rattle.points.specs.MarkList.{MarkIsWithin, all_moved, with_mark, without_mark, made_exclusive, with_exclusive}
use Rattle.points.proofs.ClipLemmas.{clipped_at}
use Rattle.points.proofs.ExtentParts.{point_at-replaced_end}
use Rattle.points.proofs.MarkTextLemmas.{marks_moved, splice_within}
use Rattle.machine.specs.Machine.{State, Watching, splice_at, heard_more, changed}
use Rattle.plain_replay.specs.Standing.{IsSound}

-- the splice of a replacement, by the point at the new text's end
pub splice_is : (t new : List ℕ) (i j : ℕ) → i ≤ length t → splice_at t i j new ≡ splice_in t i j new
splice_is t new i j within = ap (λ (p : Point). ending p) (point_at-replaced_end t i j new within) where
  ending : Point → Splice
  ending p = record { start = point_at t i; old_end = point_at t j; new_end = p }

-- after a change
pub moved_within : (t new : List ℕ) (i j : ℕ) (ms : List Mark) → i ≤ j → j ≤ length t → length (replaced t i j new) ≤ MAX_UNITS → IsSound t ms
    → All (MarkIsWithin MAX_COORD) (all_moved (splice_at t i j new) ms)
moved_within t new i j ms ij jt fits sound = subst (λ (c : Splice). All (MarkIsWithin MAX_COORD) (all_moved c ms)) (sym (splice_is t new i j (omega arith)))
    (splice_within t new i j MAX_COORD ij jt (omega (arith, sound.short)) (omega arith) ms sound.marks).moved_marks

pub sound_moved : (t new : List ℕ) (i j : ℕ) (ms : List Mark) → i ≤ j → j ≤ length t → length (replaced t i j new) ≤ MAX_UNITS → IsSound t ms
    → IsSound (replaced t i j new) (all_moved (splice_at t i j new) ms)
sound_moved t new i j ms ij jt fits sound = record {
  short = fits;
  few = omega (arith, sizes, sound.few);
  marks = subst (λ (c : Splice). All (IsMarkOf (replaced t i j new)) (all_moved c ms)) (sym (splice_is t new i j (omega arith))) (marks_moved t new i j ij jt ms sound.marks);
} where
  sizes : length (all_moved (splice_at t i j new) ms) ≡ length ms
  sizes = length-map ms _

-- with a new mark, without one, and with one made exclusive
clipped : (t : List ℕ) (p : Point) → IsPointOf t (clip t p)
clipped t p = let at = clipped_at t p in record { offset = clipped_offset t p; within = at.within; is = at.point }

filters_by : (id : ℕ) (m : Mark) (n k l : ℕ) (less more : Bool) → nat_lt m.id id ≡ less → nat_lt id m.id ≡ more → k + l ≤ n
    → (cond less (k + 1) k) + (cond more (l + 1) l) ≤ n + 1
filters_by id m n k l true true less more within = absurd (grind (arith, nat_tests))
filters_by id m n k l true false less more within = omega arith
filters_by id m n k l false true less more within = omega arith
filters_by id m n k l false false less more within = omega arith

length_by : (p : Bool) (m : Mark) (ms : List Mark) → length (cond p (m ∷ ms) ms) ≡ cond p (length ms + 1) (length ms)
length_by true m ms = omega arith
length_by false m ms = refl

filters_within : (id : ℕ) (ms : List Mark) → length (filter (λ m. nat_lt m.id id) ms) + length (filter (λ m. nat_lt id m.id) ms) ≤ length ms
filters_within id [] = omega arith
filters_within id (m ∷ ms) = omega (
  arith,
  filters_by id m (length ms) (length (filter (λ m. nat_lt m.id id) ms)) (length (filter (λ m. nat_lt id m.id) ms)) (nat_lt m.id id) (nat_lt id m.id) refl refl (filters_within id ms),
  length_by (nat_lt m.id id) m (filter (λ m. nat_lt m.id id) ms),
  length_by (nat_lt id m.id) m (filter (λ m. nat_lt id m.id) ms),
)

pub sound_with : (t : List ℕ) (ms : List Mark) (id : ℕ) (p q : Point) (exclusive : Bool) → length ms < MAX_MARKS → IsSound t ms
    → IsSound t (with_mark (record { id = id; start = clip t p; end = clip t q; exclusive = exclusive }) ms)
sound_with t ms id p q exclusive room sound = record {
  short = sound.short;
  few = omega (arith, length-append (filter (λ m. nat_lt m.id id) ms) (record { id = id; start = clip t p; end = clip t q; exclusive = exclusive } ∷ filter (λ m. nat_lt id m.id) ms), filters_within id ms);
  marks = All-append (IsMarkOf t) (filter (λ m. nat_lt m.id id) ms) _ (All-filter _ (IsMarkOf t) ms sound.marks)
      (All-cons (IsMarkOf t) (record { id = id; start = clip t p; end = clip t q; exclusive = exclusive }) (filter (λ m. nat_lt id m.id) ms) (clipped t p, clipped t q) (All-filter _ (IsMarkOf t) ms sound.marks));
}

pub sound_without : (t : List ℕ) (ms : List Mark) (id : ℕ) → IsSound t ms → IsSound t (without_mark id ms)
sound_without t ms id sound = record {
  short = sound.short;
  few = omega (arith, length-filter (λ (m : Mark). not (m.id == id)) ms, count_by-le-length (λ (m : Mark). not (m.id == id)) ms, sound.few);
  marks = All-filter (λ (m : Mark). not (m.id == id)) (IsMarkOf t) ms sound.marks;
}

kept_by : (t : List ℕ) (m : Mark) (exclusive test : Bool) → IsMarkOf t m → IsMarkOf t (cond test (record m { exclusive = exclusive }) m)
kept_by t m exclusive true both = both
kept_by t m exclusive false both = both

pub sound_exclusive : (t : List ℕ) (ms : List Mark) (id : ℕ) (exclusive : Bool) → IsSound t ms → IsSound t (with_exclusive id exclusive ms)
sound_exclusive t ms id exclusive sound = record {
  short = sound.short;
  few = omega (arith, length-map ms (made_exclusive id exclusive), sound.few);
  marks = All-map (IsMarkOf t) (made_exclusive id exclusive) ms
      (All-weaker (IsMarkOf t) (λ (m : Mark). IsMarkOf t (made_exclusive id exclusive m)) (λ m both. kept_by t m exclusive (m.id == id) both) ms sound.marks);
}

-- the splice that the code makes of a change
pub splice_made : (t x y new : List ℕ) (i j k : ℕ) (c : Splice) → c ≡ record { start = point_at x i; old_end = point_at x j; new_end = point_at y k } → x ≡ t → y ≡ replaced t i j new → k ≡ i + length new
    → c ≡ splice_at t i j new
splice_made t x y new i j k c is same after at = is ∙ rw (same, after, at) refl

abbrev pub body_of : List ℕ → List Mark → List Watching → ℕ → ℕ → State
body_of t ms ws n v = record { text = t; marks = ms; past = []; future = []; watchers = ws; count = n; version = v }

-- the body that the code makes of a change
pub made_body : (t x new : List ℕ) (ms ns : List Mark) (ws vs : List Watching) (n v i j : ℕ) → x ≡ replaced t i j new → ns ≡ all_moved (splice_at t i j new) ms
    → vs ≡ map (heard_more (splice_at t i j new)) ws → body_of x ns vs n (n + 1) ≡ changed (body_of t ms ws n v) i j new
made_body t x new ms ns ws vs n v i j text marks watchers = ap (λ (y : List ℕ). body_of y ns vs n (n + 1)) text
    ∙ ap (λ (qs : List Mark). body_of (replaced t i j new) qs vs n (n + 1)) marks
    ∙ ap (λ (us : List Watching). body_of (replaced t i j new) (all_moved (splice_at t i j new) ms) us n (n + 1)) watchers
