-- The extents of parts of a text, and of a text in which units were replaced.
use Rattle.std.proofs.Common.{◌≡◌, ℕ, ◌+◌, ◌<◌, ◌≤◌, List, [], ◌∷◌, ◌++◌, length, take, drop, get_or, sym, ap, ◌∙◌, arith, length-append, length-take}
use Rattle.std.proofs.lemmas.List.{take_more, take_all, take-take, take-append-drop, take_at, take-append-le, length-take-le, append_assoc, drop-take}
use Rattle.std.proofs.Math.Seq.{take-append-add}
use Rattle.std.proofs.lemmas.List.Sums.{count_by-le-length, suffix_len-le-length}
use Rattle.points.specs.declared.point.Point.{Point}
use Rattle.points.specs.Point.{IsWithin, traverse, traversal}
use Rattle.points.specs.Text.{is_lf, replaced}
use Rattle.points.specs.Place.{extent, point_at}
use Rattle.points.proofs.ExtentLemmas.{is_no_lf, extent-append}
use Rattle.points.proofs.PointLemmas.{traversal-traverse}

-- no coordinate passes the number of units
pub extent_within : (t : List ℕ) (limit : ℕ) → length t ≤ limit → IsWithin limit (extent t)
extent_within t limit le = record { row = omega (arith, count_by-le-length is_lf t); column = omega (arith, suffix_len-le-length is_no_lf t) }

pub point_at_within : (t : List ℕ) (i limit : ℕ) → i ≤ limit → IsWithin limit (point_at t i)
point_at_within t i limit le = extent_within (take i t) limit (omega (arith, length-take i t))

-- the point of the next offset
pub point_at_next : (t : List ℕ) (i : ℕ) → i < length t → point_at t (i + 1) ≡ traverse (point_at t i) (extent (get_or t i 0 ∷ []))
point_at_next t i lt = ap extent (take_more t i 0 lt) ∙ extent-append (take i t) (get_or t i 0 ∷ [])

-- the whole text's extent is its last offset's point
pub point_at_end : (t : List ℕ) (n : ℕ) → length t ≤ n → point_at t n ≡ extent t
point_at_end t n le = ap extent (take_all n t le)

-- the extent behind an offset
pub extent-drop : (t : List ℕ) (i : ℕ) → extent (drop i t) ≡ traversal (extent t) (point_at t i)
extent-drop t i = sym (ap (λ (xs : List ℕ). traversal (extent xs) (point_at t i)) (sym (take-append-drop i t)) ∙ (ap (λ (p : Point). traversal p (point_at t i)) (extent-append (take i t) (drop i t)) ∙ traversal-traverse (point_at t i) (extent (drop i t))))

-- the extent of a text in which units were replaced
pub extent-replaced : (t : List ℕ) (i j : ℕ) (s : List ℕ) → extent (replaced t i j s) ≡ traverse (traverse (point_at t i) (extent s)) (traversal (extent t) (point_at t j))
extent-replaced t i j s = extent-append (take i t ++ s) (drop j t) ∙ (ap (λ (p : Point). traverse p (extent (drop j t))) (extent-append (take i t) s) ∙ ap (traverse (traverse (point_at t i) (extent s))) (extent-drop t j))

-- its points: before the replaced units, at the end of the new ones, and behind them
pub point_at-replaced_before : (t : List ℕ) (i j k : ℕ) (s : List ℕ) → k ≤ i → i ≤ length t → point_at (replaced t i j s) k ≡ point_at t k
point_at-replaced_before t i j k s le within = ap extent (ap (take k) (append_assoc (take i t) s (drop j t)) ∙ (take-append-le k (take i t) (s ++ drop j t) (omega (arith, length-take-le i t within)) ∙ take-take k i t le))

pub point_at-replaced_end : (t : List ℕ) (i j : ℕ) (s : List ℕ) → i ≤ length t → point_at (replaced t i j s) (i + length s) ≡ traverse (point_at t i) (extent s)
point_at-replaced_end t i j s within = ap extent (take_at (take i t ++ s) (drop j t) (i + length s) (omega (arith, length-append (take i t) s, length-take-le i t within))) ∙ extent-append (take i t) s

-- the units between two offsets lead from the one's point to the other's
pub extent_between : (t : List ℕ) (j k : ℕ) → extent (take k (drop j t)) ≡ traversal (point_at t (j + k)) (point_at t j)
extent_between t j k = sym (ap (λ (p : Point). traversal p (point_at t j)) led ∙ traversal-traverse (point_at t j) (extent (take k (drop j t))))
  where
    parts : take j t ++ take k (drop j t) ≡ take (j + k) t
    parts = ap (λ (xs : List ℕ). xs ++ take k (drop j t)) (sym (take-take j (j + k) t (omega arith))) ∙ (ap (λ (xs : List ℕ). take j (take (j + k) t) ++ xs) (sym (drop-take j k t)) ∙ take-append-drop j (take (j + k) t))

    led : point_at t (j + k) ≡ traverse (point_at t j) (extent (take k (drop j t)))
    led = ap extent (sym parts) ∙ extent-append (take j t) (take k (drop j t))

pub point_at-replaced_behind : (t : List ℕ) (i j k : ℕ) (s : List ℕ) → i ≤ length t → point_at (replaced t i j s) (i + length s + k) ≡ traverse (traverse (point_at t i) (extent s)) (traversal (point_at t (j + k)) (point_at t j))
point_at-replaced_behind t i j k s within = ap extent cut ∙ (extent-append (take i t ++ s) (take k (drop j t)) ∙ (ap (λ (p : Point). traverse p (extent (take k (drop j t)))) (extent-append (take i t) s) ∙ ap (traverse (traverse (point_at t i) (extent s))) (extent_between t j k)))
  where
    len : length (take i t ++ s) ≡ i + length s
    len = omega (arith, length-append (take i t) s, length-take-le i t within)

    cut : take (i + length s + k) (replaced t i j s) ≡ take i t ++ s ++ take k (drop j t)
    cut = ap (λ (n : ℕ). take (n + k) (replaced t i j s)) (sym len) ∙ take-append-add (take i t ++ s) (drop j t) k
