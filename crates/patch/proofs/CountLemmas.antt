-- How many gaps a run of edits leaves, and how far they reach: the tags that are left rise, so each gap but the last has a
-- unit of both texts behind it, and each takes a unit of one of them.
use Rattle.std.proofs.Common.{◌≡◌, ℕ, suc, zero, ◌+◌, ◌-◌, ◌*◌, ◌<◌, ◌≤◌, ◌==◌, ◌&&◌, ◌||◌, List, [], ◌∷◌, ◌++◌, length, take, drop, slice_range, cond, Bool, true, false, Option, Some, None, refl, sym, ap, ◌∙◌, arith, length-append, length-take}
use Rattle.std.specs.List.{All}
use Rattle.std.proofs.lemmas.List.Elements.{All-head, All-tail}
use Rattle.std.proofs.lemmas.Bool.Decides.{nat_tests}
use Rattle.points.specs.declared.point.Point.{Point}
use Rattle.points.specs.declared.limits.TheConstants.{MAX_CHANGES, MAX_COORD}
use Rattle.points.specs.Place.{extent, point_at}
use Rattle.points.specs.Distance.{is_far}
use Rattle.points.proofs.ExtentParts.{extent_within, point_at_within}
use Rattle.points.proofs.CapLemmas.{is_far-within}
use Rattle.patch.specs.Hunk.{Hunk}
use Rattle.patch.specs.ChangeList.{IsPatch}
use Rattle.patch.specs.Tagged.{Tagged, tagged_from, tagged, untagged, edited, run, AreForward, gap, gaps_from, gaps}
use Rattle.patch.specs.Fit.{Fits, tag}
use Rattle.patch.specs.Stretches.{any_far}
use Rattle.patch.specs.Splicing.{KeepsLimits}
use Rattle.patch.proofs.Pieces.{Piece, old_of, tag_of}
use Rattle.patch.proofs.PatchPieces.{IsCut, cut_of}
use Rattle.patch.proofs.ShownPieces.{shown_tag}
use Rattle.patch.proofs.SpliceSteps.{any_far-append}

-- the tags rise, from offset i on up to offset n
abbrev pub Rises : ℕ → ℕ → Tagged → Type 0
Rises i n [] = i ≤ n
Rises i n ((u, None) ∷ g) = Rises i n g
Rises i n ((u, Some j) ∷ g) = (i ≤ j) × Rises (j + 1) n g

ends : (i n : ℕ) (g : Tagged) → Rises i n g → i ≤ n
ends i n [] rises = rises
ends i n ((u, None) ∷ g) rises = ends i n g rises
ends i n ((u, Some j) ∷ g) rises = omega (arith, rises.0, ends (j + 1) n g rises.1)

from_before : (i k n : ℕ) (g : Tagged) → k ≤ i → Rises i n g → Rises k n g
from_before i k n [] before rises = omega arith
from_before i k n ((u, None) ∷ g) before rises = from_before i k n g before rises
from_before i k n ((u, Some j) ∷ g) before rises = (omega (arith, rises.0), rises.1)

rises-drop : (i n b : ℕ) (g : Tagged) → Rises i n g → Rises i n (drop b g)
rises-drop i n zero g rises = rises
rises-drop i n (suc b) [] rises = rises
rises-drop i n (suc b) ((u, None) ∷ g) rises = rises-drop i n b g rises
rises-drop i n (suc b) ((u, Some j) ∷ g) rises = from_before (j + 1) i n (drop b g) (omega (arith, rises.0)) (rises-drop (j + 1) n b g rises.1)

rises-untagged : (i n : ℕ) (t : List ℕ) (g : Tagged) → Rises i n g → Rises i n (untagged t ++ g)
rises-untagged i n [] g rises = rises
rises-untagged i n (u ∷ t) g rises = rises-untagged i n t g rises

rises-edited : (i n a b : ℕ) (t : List ℕ) (g : Tagged) → a ≤ b → Rises i n g → Rises i n (edited g a b t)
rises-edited i n zero b t g le rises = rises-untagged i n t (drop b g) (rises-drop i n b g rises)
rises-edited i n (suc a) b t [] le rises = rises-untagged i n t (drop b []) (rises-drop i n b [] rises)
rises-edited i n (suc a) zero t (x ∷ g) le rises = absurd (omega arith)
rises-edited i n (suc a) (suc b) t ((u, None) ∷ g) le rises = rises-edited i n a b t g (omega arith) rises
rises-edited i n (suc a) (suc b) t ((u, Some j) ∷ g) le rises = (rises.0, rises-edited (j + 1) n a b t g (omega arith) rises.1)

rises-tagged : (i n : ℕ) (s : List ℕ) (g : Tagged) → i + length s ≤ n → Rises (i + length s) n g → Rises i n (tagged_from i s ++ g)
rises-tagged i n [] g within rises = from_before (i + 0) i n g (omega arith) rises
rises-tagged i n (u ∷ us) g within rises = (omega arith, rises-tagged (i + 1) n us g (omega arith) (from_before (i + suc (length us)) (i + 1 + length us) n g (omega arith) rises))

rises-run : (i n : ℕ) (edits : List (ℕ × ℕ × List ℕ)) (g : Tagged) → AreForward edits → Rises i n g → Rises i n (run g edits)
rises-run i n [] g forward rises = rises
rises-run i n (e ∷ es) g forward rises = rises-run i n es (edited g e.0 e.1 e.2) (All-tail (λ (x : ℕ × ℕ × List ℕ). x.0 ≤ x.1) e es forward) (rises-edited i n e.0 e.1 e.2 g (All-head (λ (x : ℕ × ℕ × List ℕ). x.0 ≤ x.1) e es forward) rises)

-- a change or none, where it would have some unit
one_gap : (none : Bool) (h : Hunk) (m : ℕ) → (none ≡ false → 1 ≤ m) → (length (cond none [] (h ∷ [])) ≤ 1) × (length (cond none [] (h ∷ [])) ≤ m)
one_gap true h m some = (omega arith, omega arith)
one_gap false h m some = let one = some refl in (omega arith, omega arith)

few_gap : (s : List ℕ) (i j : ℕ) (before t : List ℕ) → (length (gap s i j before t) ≤ 1) × (length (gap s i j before t) ≤ j - i + length t)
few_gap s i j before t = one_gap ((length (slice_range s i j) == 0) && (length t == 0)) _ (j - i + length t) (some (slice_range s i j) t (omega (arith, length-take (j - i) (drop i s))))
  where
    some : (xs ys : List ℕ) → length xs ≤ j - i → ((length xs == 0) && (length ys == 0)) ≡ false → 1 ≤ j - i + length ys
    some [] [] within differ = absurd (let e : true ≡ false = differ in cc)
    some [] (y ∷ ys) within differ = omega arith
    some (x ∷ xs) ys within differ = omega arith

few_from : (s : List ℕ) (i : ℕ) (before t : List ℕ) (g : Tagged) → Rises i (length s) g → 3 * length (gaps_from s i before t g) + i ≤ length s + length t + length g + 2
few_from s i before t [] rises = let few = few_gap s i (length s) before t in omega (arith, few.0, few.1)
few_from s i before t ((u, None) ∷ g) rises = omega (arith, few_from s i before (t ++ u ∷ []) g rises, length-append t (u ∷ []))
few_from s i before t ((u, Some j) ∷ g) rises = let few = few_gap s i j before t in
    omega (arith, rises.0, few.0, few.1, few_from s (j + 1) (before ++ t ++ u ∷ []) [] g rises.1, length-append (gap s i j before t) (gaps_from s (j + 1) (before ++ t ++ u ∷ []) [] g))

-- no coordinate passes the length of a text
near_at : (t : List ℕ) → length t ≤ MAX_COORD → is_far (extent t) ≡ false
near_at t short = is_far-within (extent t) (extent_within t MAX_COORD short)

near_change : (none a b c d : Bool) (h : Hunk) → a ≡ false → b ≡ false → c ≡ false → d ≡ false → (is_far h.old_start ≡ a) × (is_far h.old_end ≡ b) × (is_far h.new_start ≡ c) × (is_far h.new_end ≡ d) → any_far (cond none [] (h ∷ [])) ≡ false
near_change true a b c d h ea eb ec ed is = refl
near_change false a b c d h ea eb ec ed is = grind (arith, is.0, is.1, is.2, is.3)

near_gap : (s : List ℕ) (i j : ℕ) (before t : List ℕ) → length s ≤ MAX_COORD → length (before ++ t) ≤ MAX_COORD → any_far (gap s i j before t) ≡ false
near_gap s i j before t old new = near_change ((length (slice_range s i j) == 0) && (length t == 0)) false false false false _ refl refl refl refl
    (near_at (take i s) (omega (arith, length-take i s)), near_at (take j s) (omega (arith, length-take j s)), near_at before (omega (arith, length-append before t)), near_at (before ++ t) new)

both_near : (xs ys : List Hunk) → any_far xs ≡ false → any_far ys ≡ false → any_far (xs ++ ys) ≡ false
both_near xs ys x y = any_far-append xs ys ∙ (ap (λ (b : Bool). b || any_far ys) x ∙ y)

near_from : (s : List ℕ) (i : ℕ) (before t : List ℕ) (g : Tagged) → length s ≤ MAX_COORD → length before + length t + length g ≤ MAX_COORD → any_far (gaps_from s i before t g) ≡ false
near_from s i before t [] old new = near_gap s i (length s) before t old (omega (arith, length-append before t))
near_from s i before t ((u, None) ∷ g) old new = near_from s i before (t ++ u ∷ []) g old (omega (arith, length-append t (u ∷ [])))
near_from s i before t ((u, Some j) ∷ g) old new = both_near (gap s i j before t) (gaps_from s (j + 1) (before ++ t ++ u ∷ []) [] g) (near_gap s i j before t old (omega (arith, length-append before t)))
    (near_from s (j + 1) (before ++ t ++ u ∷ []) [] g old (omega (arith, length-append (before ++ t) (u ∷ []), length-append before t)))

pub few_gaps : (s : List ℕ) (g : Tagged) → Rises 0 (length s) g → 3 * length (gaps s g) ≤ length s + length g + 2
few_gaps s g rises = omega (arith, few_from s 0 [] [] g rises)

pub gaps_within : (s : List ℕ) (g : Tagged) → Rises 0 (length s) g → length s + length g ≤ 3 * MAX_CHANGES → KeepsLimits (gaps s g)
gaps_within s g rises short = (near_from s 0 [] [] g (omega arith) (omega arith), omega (arith, few_gaps s g rises))

-- the tags of a run of edits rise
pub run_rises : (s : List ℕ) (edits : List (ℕ × ℕ × List ℕ)) → AreForward edits → Rises 0 (length s) (run (tagged s) edits)
run_rises s edits forward = rises-run 0 (length s) edits (tagged s) forward (whole 0 (length s) s (omega arith))
  where
    whole : (i n : ℕ) (us : List ℕ) → i + length us ≤ n → Rises i n (tagged_from i us)
    whole i n [] within = omega arith
    whole i n (u ∷ us) within = (omega arith, whole (i + 1) n us (omega arith))
