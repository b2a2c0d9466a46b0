-- Which takes show a version that they can show, by the versions behind the calls.
use Rattle.std.proofs.Common.{◌≡◌, ℕ, zero, suc, ◌+◌, ◌-◌, ◌<◌, ◌≤◌, List, [], ◌∷◌, length, drop, get_or, min, Bool, true, false, ◌&&◌, Option, Some, None, refl, sym, ◌∙◌, ap, subst, arith, inl, inr}
use Rattle.std.specs.Prelude.{◌==◌, nat_lt, nat_le}
use Rattle.std.specs.List.{AllByRecursion}
use Rattle.std.specs.List.Sorted.{IsStrictlyIncreasing}
use Rattle.std.proofs.lemmas.Bool.{cases_lt, and_parts, and_from, ltb-true, leb-true, eqb-true, lt-ltb, le-leb, eq-eqb}
use Rattle.machine.specs.declared.reply.Reply.{Reply}
use Rattle.machine.specs.Machine.{opened}
use Rattle.machine.specs.Answers.{Matches, number_of}
use Rattle.machine.specs.Lawful.{Entry, state_after, numbers, with_number, last_number, IsTakingLawful}
use Rattle.snapshot_check.specs.Takes.{Spot, taking_of, version_at, numbers_before, numbers_behind, first_number}
use Rattle.snapshot_check.specs.Showing.{is_below, version_before, is_shown_by, is_good}
use Rattle.snapshot_check.specs.Judged.{IsJudged}
use Rattle.snapshot_check.proofs.LinkLemmas.{version_is}
use Rattle.transcript_check.specs.Found.{IsShown, IsDoubtful, AreVersions, AreSettled}
use Rattle.transcript_check.proofs.RisingLemmas.{tail_rises}
use Rattle.transcript_check.proofs.VersionLemmas.{IsKnown}

-- ---- the numbers behind a take rise
with_rises : (o : Option ℕ) (ns : List ℕ) → IsStrictlyIncreasing (with_number o ns) → IsStrictlyIncreasing ns
with_rises None ns all = all
with_rises (Some n) ns all = tail_rises n ns all

behind_rise : (k : ℕ) (rs : List Reply) → IsStrictlyIncreasing (numbers rs) → IsStrictlyIncreasing (numbers (drop k rs))
behind_rise zero rs all = all
behind_rise (suc k) [] all = all
behind_rise (suc k) (r ∷ rs) all = behind_rise k rs (with_rises (number_of r) (numbers rs) all)

above_all : (v m : ℕ) (ns : List ℕ) → IsStrictlyIncreasing (m ∷ ns) → v < m → AllByRecursion (λ n. v < n) ns
above_all v m [] all low = tt
above_all v m (n ∷ ns) all low = let first : m < n = all 0 (omega arith) in (omega (arith, low, first), above_all v n ns (tail_rises m (n ∷ ns) all) (omega (arith, low, first)))

below_all : (v : ℕ) (ns : List ℕ) → IsStrictlyIncreasing ns → is_below v (first_number ns) ≡ true → AllByRecursion (λ n. v < n) ns
below_all v [] all is = tt
below_all v (n ∷ ns) all is = let low : v < n = ltb-true v n is in (low, above_all v n ns all low)

all_below : (v : ℕ) (ns : List ℕ) → AllByRecursion (λ n. v < n) ns → is_below v (first_number ns) ≡ true
all_below v [] all = refl
all_below v (n ∷ ns) all = lt-ltb v n all.0

-- ---- the test, and what it says
module _ (opening : List ℕ) (es : List Entry) (vs : List ℕ) (known : (m : ℕ) → m ≤ length es → IsKnown opening es m) (are : AreVersions (opened opening) es (length es + 1) vs) (told : List (Option Matches)) (x : Spot) where
  last_before : ℕ
  last_before = min (last_number (numbers_before x)) (length vs - 1)

  last_small : last_before ≤ length es
  unfolding last_before
  last_small = omega (arith, are.long)

  version_there : get_or vs last_before 0 ≡ (state_after (opened opening) es last_before).version
  version_there = are.each last_before (omega (arith, last_small))

  pub is_shown : is_shown_by vs x ≡ true → IsStrictlyIncreasing (numbers x.replies) → IsShown (opened opening) es (taking_of told x)
  unfolding last_before
  is_shown is rising =
      let a = and_parts (nat_lt x.version (length vs)) _ is in
      let b = and_parts (get_or vs x.version 0 == x.version) _ a.1 in
      let c = and_parts (nat_le (version_before vs x) x.version) (is_below x.version (first_number (numbers_behind x))) b.1 in
      let within : x.version < length vs = ltb-true x.version (length vs) a.0 in
      let same : get_or vs x.version 0 ≡ x.version = eqb-true (get_or vs x.version 0) x.version b.0 in
      let old : version_before vs x ≤ x.version = leb-true (version_before vs x) x.version c.0 in
      record {
        shown = elim (cases_lt 0 x.version) [
          | inl some ↦ inr (record { first = some; within = omega (arith, within, are.long); changed = sym (are.each x.version (omega (arith, within, are.long))) ∙ same })
          | inr over ↦ inl (omega (arith, over))
        ];
        fresh = λ n above below change. (known last_before last_small).shows.fresh n (omega (arith, sym version_there, old, above)) (omega (arith, below, change.within, are.long)) change;
        below = below_all x.version (numbers_behind x) (behind_rise (x.place + 1) x.replies rising) c.1;
      }

  pub shown_test : IsShown (opened opening) es (taking_of told x) → is_shown_by vs x ≡ true
  unfolding last_before
  shown_test shown =
      let at : (x.version < length vs) × (get_or vs x.version 0 ≡ x.version) = elim shown.shown [
        | inl none_yet ↦ (omega (arith, none_yet, are.long), are.each x.version (omega (arith, none_yet)) ∙ (ap (λ (n : ℕ). (state_after (opened opening) es n).version) none_yet ∙ sym none_yet))
        | inr change ↦ (omega (arith, change.within, are.long), are.each x.version (omega (arith, change.within)) ∙ change.changed)
      ] in
      let old : version_before vs x ≤ x.version = elim (cases_lt x.version (version_before vs x)) [
        | inl later ↦ absurd (elim (known last_before last_small).shows.shown [
          | inl none_yet ↦ omega (arith, later, version_there, none_yet)
          | inr change ↦ shown.fresh (state_after (opened opening) es last_before).version (omega (arith, later, version_there)) (omega (arith, (known last_before last_small).shows.low)) change
        ])
        | inr kept ↦ kept
      ] in
      and_from _ _ (lt-ltb x.version (length vs) at.0) (and_from _ _ (eq-eqb (get_or vs x.version 0) x.version at.1)
      (and_from _ _ (le-leb (version_before vs x) x.version old) (all_below x.version (numbers_behind x) shown.below)))

  -- ---- a take that is good is lawful, and another one isn't, or has an untold pattern
  module _ (spots : List Spot) (right : List Bool) (i : ℕ) (within : i < length spots) (at : x ≡ get_or spots i x) (settled : AreSettled (opened opening) es told spots (length es + 1) right) where
    judged_as : (b : Bool) → x.version < length vs → get_or right i false ≡ b → IsJudged b (state_after (opened opening) es x.version).text (taking_of told x).asked
    judged_as b small mark =
        let same : version_at spots i ≡ x.version = version_is spots i x within at in
        subst (λ (c : Bool). IsJudged c (state_after (opened opening) es x.version).text (taking_of told x).asked) mark
        (subst (λ (v : ℕ). IsJudged (get_or right i false) (state_after (opened opening) es v).text (taking_of told x).asked) same
        (settled i within (omega (arith, same, small, are.long)) x at))

    small_version : is_shown_by vs x ≡ true → x.version < length vs
    small_version is = ltb-true x.version (length vs) (and_parts (nat_lt x.version (length vs)) _ is).0

    pub good_lawful : is_good vs right i x ≡ true → IsStrictlyIncreasing (numbers x.replies) → IsTakingLawful (opened opening) es (taking_of told x)
    good_lawful is rising =
        let parts = and_parts (is_shown_by vs x) (get_or right i false) is in
        let shown : IsShown (opened opening) es (taking_of told x) = is_shown parts.0 rising in
        record { shown = shown.shown; fresh = shown.fresh; below = shown.below; answers = judged_as true (small_version parts.0) parts.1 }

    doubted : (b c : Bool) → is_shown_by vs x ≡ b → get_or right i false ≡ c → (b && c) ≡ false → IsDoubtful (opened opening) es (taking_of told x)
    doubted false c shown mark is = inl (λ (l : IsTakingLawful (opened opening) es (taking_of told x)).
        let yes_ : is_shown_by vs x ≡ true = shown_test (record { shown = l.shown; fresh = l.fresh; below = l.below }) in
        let clash : true ≡ false = sym yes_ ∙ shown in cc)
    doubted true true shown mark is = absurd cc
    doubted true false shown mark is = elim (judged_as false (small_version shown) mark) [
      | inl wrong ↦ inl (λ (l : IsTakingLawful (opened opening) es (taking_of told x)). wrong l.answers)
      | inr u ↦ inr u
    ]

    pub bad_doubtful : is_good vs right i x ≡ false → IsDoubtful (opened opening) es (taking_of told x)
    bad_doubtful is = doubted (is_shown_by vs x) (get_or right i false) refl refl is
