-- The takes by their versions: linked one after the other, and judged from the last of a version on.
use Rattle.std.proofs.Common.{◌≡◌, ℕ, zero, suc, ◌+◌, ◌-◌, ◌<◌, ◌≤◌, List, [], ◌∷◌, ◌++◌, length, get_or, set, replicate, Bool, false, refl, sym, ◌∙◌, ap, subst, arith, inl, inr, length-append}
use Rattle.std.specs.Prelude.{Option, ◌⊎◌}
use Rattle.std.proofs.lemmas.Bool.{cases_lt}
use Rattle.std.proofs.lemmas.List.{get_or-map, get_or_default, get_or-set_same, get_or-set_other, length-replicate}
use Rattle.machine.specs.Answers.{Matches}
use Rattle.snapshot_check.specs.Takes.{Spot, version_at, taking_of, IsLast, AreLinked, IsLinkedOn}
use Rattle.snapshot_check.specs.Judged.{IsJudged, IsJudgedAt, AreJudged, IsMarked}

pub version_is : (spots : List Spot) (i : ℕ) (x : Spot) → i < length spots → x ≡ get_or spots i x → version_at spots i ≡ x.version
version_is spots i x h is = get_or-map (λ (s : Spot). s.version) spots i x 0 h ∙ ap (λ (s : Spot). s.version) (sym is)

pub get_front : (xs : List ℕ) (y k : ℕ) → k < length xs → get_or (xs ++ y ∷ []) k 0 ≡ get_or xs k 0
get_front [] y k h = absurd (omega (arith, h))
get_front (x ∷ xs) y zero h = refl
get_front (x ∷ xs) y (suc k) h = get_front xs y k (omega (arith, h))

pub get_last : (xs : List ℕ) (y : ℕ) → get_or (xs ++ y ∷ []) (length xs) 0 ≡ y
get_last [] y = refl
get_last (x ∷ xs) y = get_last xs y

zero_each : (n k z : ℕ) → z ≡ 0 → get_or (replicate n z) k 0 ≡ 0
zero_each zero k z is = omega arith
zero_each (suc n) zero z is = is
zero_each (suc n) (suc k) z is = zero_each n k z is

pub linked_none : (spots : List Spot) (n : ℕ) (lasts : List ℕ) → lasts ≡ replicate (n + 1) 0 → AreLinked spots n 0 lasts []
linked_none spots n lasts is = record {
  long = ap length is ∙ length-replicate (n + 1) 0;
  many = refl;
  last = λ v h. let e : get_or lasts v 0 ≡ 0 = ap (λ l. get_or l v 0) is ∙ zero_each (n + 1) v 0 refl in
      record { within = omega (arith, e); here = λ some. absurd (omega (arith, some, e)); none = λ i low high same. absurd (omega (arith, high)) };
  next = λ i h low. absurd (omega (arith, h));
}

last_kept : (spots : List Spot) (v w i j k : ℕ) → version_at spots i ≡ v → (w ≡ v → ⊥) → k ≡ j → IsLast spots w i j → IsLast spots w (i + 1) k
last_kept spots v w i j k here apart same l = record {
  within = omega (arith, l.within, same);
  here = λ some. let e : j - 1 ≡ k - 1 = omega (arith, same) in ap (version_at spots) (sym e) ∙ l.here (omega (arith, some, same));
  none = λ m low high is. elim (cases_lt m i) [
    | inl under ↦ l.none m (omega (arith, low, same)) under is
    | inr over ↦ let e : m ≡ i = omega (arith, over, high) in apart (sym is ∙ (ap (version_at spots) e ∙ here))
  ];
}

last_new : (spots : List Spot) (v i k : ℕ) → version_at spots i ≡ v → k ≡ i + 1 → IsLast spots v (i + 1) k
last_new spots v i k here same = record {
  within = omega (arith, same);
  here = λ some. let e : k - 1 ≡ i = omega (arith, same) in ap (version_at spots) e ∙ here;
  none = λ m low high is. omega (arith, low, high, same);
}

last_as : (spots : List Spot) (v w i j k : ℕ) → w ≡ v → k ≡ j → IsLast spots v i j → IsLast spots w i k
last_as spots v w i j k is same l = subst (λ (x : ℕ). IsLast spots x i k) (sym is) (subst (λ (x : ℕ). IsLast spots v i x) (sym same) l)

-- one take more
pub linked_more : (spots : List Spot) (n i v : ℕ) (lasts nexts more_lasts more_nexts : List ℕ) → version_at spots i ≡ v → AreLinked spots n i lasts nexts → IsLinkedOn lasts nexts i v more_lasts more_nexts → AreLinked spots n (i + 1) more_lasts more_nexts
linked_more spots n i v lasts nexts more_lasts more_nexts here a on = record {
  long = on.long ∙ a.long;
  many = ap length on.more.1 ∙ (length-append nexts (on.more.0 ∷ []) ∙ ap (λ (m : ℕ). m + 1) a.many);
  last = λ w h. elim (same_or w v) [
    | inl same ↦ last_as spots v w (i + 1) (get_or more_lasts v 0) (get_or more_lasts w 0) same (ap (λ (x : ℕ). get_or more_lasts x 0) same) (last_new spots v i (get_or more_lasts v 0) here (on.here (omega (arith, h, same, a.long))))
    | inr apart ↦ last_kept spots v w i (get_or lasts w 0) (get_or more_lasts w 0) here apart (on.others w apart) (a.last w h)
  ];
  next = λ k h low. elim (cases_lt k i) [
    | inl under ↦ last_as spots (version_at spots k) (version_at spots k) k (get_or nexts k 0) (get_or more_nexts k 0) refl
        (ap (λ (l : List ℕ). get_or l k 0) on.more.1 ∙ get_front nexts on.more.0 k (omega (arith, under, a.many))) (a.next k under low)
    | inr over ↦
        let e : k ≡ i = omega (arith, over, h) in
        let at : version_at spots k ≡ v = ap (version_at spots) e ∙ here in
        let small : v ≤ n = subst (λ (x : ℕ). x ≤ n) at low in
        let found : get_or more_nexts k 0 ≡ get_or lasts v 0 = ap (λ (l : List ℕ). get_or l k 0) on.more.1 ∙ (ap (λ (x : ℕ). get_or (nexts ++ on.more.0 ∷ []) x 0) (e ∙ sym a.many) ∙ (get_last nexts on.more.0 ∙ on.more.2 (omega (arith, small, a.long)))) in
        subst (λ (x : ℕ). IsLast spots (version_at spots k) x (get_or more_nexts k 0)) (sym e) (last_as spots v (version_at spots k) i (get_or lasts v 0) (get_or more_nexts k 0) at found (a.last v small))
  ];
}
  where
    same_or : (a b : ℕ) → (a ≡ b) ⊎ (a ≡ b → ⊥)
    same_or a b = elim (cases_lt a b) [
      | inl less ↦ inr (λ e. omega (arith, less, e))
      | inr over ↦ elim (cases_lt b a) [
        | inl more ↦ inr (λ e. omega (arith, more, e))
        | inr under ↦ inl (omega (arith, over, under))
      ]
    ]

-- no take is judged yet
pub judged_none : (told : List (Option Matches)) (spots : List Spot) (t : List ℕ) (n j : ℕ) (right : List Bool) → IsLast spots n (length spots) j → AreJudged told spots t n j right right
judged_none told spots t n j right l = record {
  long = refl;
  judged = λ i low high is. absurd (l.none i low high is);
  others = λ i apart. refl;
}

-- one take more is judged: the one before j
pub judged_more : (told : List (Option Matches)) (spots : List Spot) (t : List ℕ) (n j place k : ℕ) (before old new : List Bool) → place + 1 ≡ j → place < length spots → version_at spots place ≡ n → IsLast spots n place k
    → IsMarked told spots t place old new → AreJudged told spots t n j before old → AreJudged told spots t n k before new
judged_more told spots t n j place k before old new next within here l marked so_far = record {
  long = marked.long ∙ so_far.long;
  judged = λ i low high is. elim (cases_lt i place) [
    | inl under ↦ absurd (l.none i low under is)
    | inr over ↦ elim (cases_lt place i) [
      | inl above ↦ λ x e. subst (λ (b : Bool). IsJudged b t (taking_of told x).asked) (sym (marked.others i (λ (same : i ≡ place). omega (arith, same, above)))) (so_far.judged i (omega (arith, above, next)) high is x e)
      | inr under ↦ let same : place ≡ i = omega (arith, over, under) in subst (λ (m : ℕ). IsJudgedAt told spots new t m) same marked.here
    ]
  ];
  others = λ i apart. marked.others i (λ (same : i ≡ place). apart (ap (version_at spots) same ∙ here)) ∙ so_far.others i apart;
}

-- the mark of one take
pub marked_there : (told : List (Option Matches)) (spots : List Spot) (t : List ℕ) (place : ℕ) (x : Spot) (b : Bool) (old new : List Bool) → place < length spots → place < length old → x ≡ get_or spots place x → new ≡ set old place b → length new ≡ length old
    → IsJudged b t (taking_of told x).asked → IsMarked told spots t place old new
marked_there told spots t place x b old new within small is made long judged = record {
  long = long;
  here = λ y e.
      let same : x ≡ y = is ∙ (get_or_default spots place x y within ∙ sym e) in
      let mark : b ≡ get_or new place false = sym (ap (λ (l : List Bool). get_or l place false) made ∙ get_or-set_same old place b false small) in
      subst (λ (z : Bool). IsJudged z t (taking_of told y).asked) mark (subst (λ (z : Spot). IsJudged b t (taking_of told z).asked) same judged);
  others = λ i apart. ap (λ (l : List Bool). get_or l i false) made ∙ get_or-set_other old place i b false apart;
}
