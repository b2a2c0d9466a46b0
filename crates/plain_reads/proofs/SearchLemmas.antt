-- One step of a search for a literal at each offset.
use Rattle.std.proofs.Common.{◌≡◌, ℕ, zero, suc, ◌+◌, ◌-◌, ◌<◌, ◌≤◌, List, [], ◌∷◌, ◌++◌, length, map, take, drop, get_or, slice_range, min, ◌^◌, Bool, true, false, sym, ap, ◌∙◌, arith, inl, inr, add-one, drop-cons}
use Rattle.std.specs.Prelude.{if◌then◌else◌}
use Rattle.std.proofs.lemmas.Bool.{cases_lt}
use Rattle.std.proofs.lemmas.List.{length-map, take-map, take_all, length-drop}
use Rattle.points.specs.declared.point.Point.{Point}
use Rattle.points.specs.declared.limits.TheConstants.{MAX_UNITS}
use Rattle.points.specs.Place.{extent, point_at}
use Rattle.points.specs.Literal.{stands_in_front, hits_from}
use Rattle.machine.specs.declared.reply.Span.{Span}
use Rattle.machine.specs.declared.reads.ReadAnswer.TheVariants as answer
use Rattle.machine.specs.Answers.{found, span_at}
use Rattle.plain_reads.specs.Searching.{left_at}

pub skipped : (t needle : List ℕ) (at skip : ℕ) → at < length t → 0 < skip → left_at t needle (at + 1) (skip - 1) ≡ left_at t needle at skip
skipped t needle at zero h more = absurd (omega (arith, more))
skipped t needle at (suc skip) h more =
    let e : suc skip - 1 ≡ skip = omega arith in
    let cut : drop at t ≡ get_or t at 0 ∷ drop (suc at) t = drop-cons t at 0 h in
    ap (left_at t needle (at + 1)) e ∙ ap (λ (n : ℕ). hits_from needle (at + 1) skip (drop n t)) (add-one at) ∙ sym (ap (hits_from needle at (suc skip)) cut)

-- the hits from an offset on, by whether the needle stands there
at_offset : (t needle : List ℕ) (at : ℕ) (b : Bool) → at < length t → stands_in_front needle (drop at t) ≡ b
    → left_at t needle at 0 ≡ (if b then at ∷ [] else []) ++ left_at t needle (at + 1) (if b then length needle - 1 else 0)
at_offset t needle at b h is =
    let cut : drop at t ≡ get_or t at 0 ∷ drop (suc at) t = drop-cons t at 0 h in
    let here : stands_in_front needle (get_or t at 0 ∷ drop (suc at) t) ≡ b = ap (stands_in_front needle) (sym cut) ∙ is in
    ap (hits_from needle at 0) cut
    ∙ ap (λ (x : Bool). (if x then at ∷ [] else []) ++ hits_from needle (at + 1) (if x then length needle - 1 else 0) (drop (suc at) t)) here
    ∙ ap (λ (n : ℕ). (if b then at ∷ [] else []) ++ hits_from needle (at + 1) (if b then length needle - 1 else 0) (drop n t)) (sym (add-one at))

pub missed : (t needle : List ℕ) (at : ℕ) → at < length t → stands_in_front needle (drop at t) ≡ false → left_at t needle (at + 1) 0 ≡ left_at t needle at 0
missed t needle at h is = sym (at_offset t needle at false h is)

pub hit_there : (t needle : List ℕ) (at next : ℕ) → at < length t → stands_in_front needle (drop at t) ≡ true → next ≡ length needle - 1 → at ∷ left_at t needle (at + 1) next ≡ left_at t needle at 0
hit_there t needle at next h is e = ap (λ (n : ℕ). at ∷ left_at t needle (at + 1) n) e ∙ sym (at_offset t needle at true h is)

-- what is answered, by all starts and the stretches of the first of them
pub found_so : (t : List ℕ) (n count limit : ℕ) (starts first : List ℕ) (spans : List Span) → count ≡ length starts → first ≡ take limit starts → spans ≡ map (span_at t n) first
    → answer.Found count spans ≡ found limit (map (span_at t n) starts)
found_so t n count limit starts first spans counted cut shown =
    ap (λ (m : ℕ). answer.Found m spans) (counted ∙ sym (length-map starts (span_at t n)))
    ∙ ap (λ (ss : List Span). answer.Found (length (map (span_at t n) starts)) ss) (shown ∙ (ap (map (span_at t n)) cut ∙ sym (take-map (span_at t n) limit starts)))

-- an offset beyond the end has the point of the end
beyond : (t : List ℕ) (i j : ℕ) → j ≡ min i (2 ^ 64 - 1) → length t ≤ MAX_UNITS → take j t ≡ take i t
beyond t i j e short = elim (cases_lt i (2 ^ 64 - 1)) [
  | inl under ↦ let same : j ≡ i = omega (arith, e, under) in ap (λ (k : ℕ). take k t) same
  | inr over ↦ take_all j t (omega (arith, e, over, short)) ∙ sym (take_all i t (omega (arith, over, short)))
]

abbrev pub from_to : Point → Point → Span
from_to p q = record { start = p; end = q }

pub span_beyond : (t : List ℕ) (n i j : ℕ) (p q : Point) → p ≡ point_at t i → q ≡ point_at t j → j ≡ min (i + n) (2 ^ 64 - 1) → length t ≤ MAX_UNITS → from_to p q ≡ span_at t n i
span_beyond t n i j p q first last e short = ap (λ (x : Point). from_to x q) first ∙ ap (from_to (point_at t i)) (last ∙ ap extent (beyond t (i + n) j e short))

pub whole_slice : (t : List ℕ) (n : ℕ) → n ≡ length t → slice_range t 0 n ≡ t
whole_slice t n e = let z : n - 0 ≡ n = omega arith in ap (λ (k : ℕ). take k t) z ∙ take_all n t (omega (arith, e))

pub rest_slice : (t : List ℕ) (i : ℕ) → take (length t - i) (drop i t) ≡ drop i t
rest_slice t i = take_all (length t - i) (drop i t) (omega (arith, length-drop i t))
