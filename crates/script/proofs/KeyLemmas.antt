-- Objects whose keys stand in order, each once: those that are read, and what they are where some keys are known to be all of them.
use Rattle.std.proofs.Common.{◌≡◌, ◌<◌, ◌⊎◌, inl, inr, ℕ, suc, List, [], ◌∷◌, length, true, Option, Some, None, Ordering, Less, Equal, Greater, nat_cmp, refl, sym, ap, ap₂, subst, ◌∙◌, arith, is_eq}
use Rattle.std.specs.Prelude.{is_some}
use Rattle.std.specs.Cmp.Lexicographic.{slice_cmp}
use Rattle.std.specs.List.{AllByRecursion}
use Rattle.std.specs.Ordering.{match_ordering, ordering_reverse}
use Rattle.std.proofs.lemmas.Bool.{true≢false}
use Rattle.std.proofs.lemmas.Cmp.{nat_list_cmp_total}
use Rattle.std.proofs.lemmas.Map.Text.{is_eq-slice_cmp}
use Rattle.std.proofs.lemmas.Slice.Eq.{bytes_eq-Decides}
use Rattle.script.specs.Parts.{count_members}
use Rattle.serde_json.specs.Data.{Data, Members, no_members, member}
use Rattle.serde_json.specs.Find.{get_member}

-- the order of keys
abbrev pub key_cmp : List ℕ → List ℕ → Ordering
key_cmp = slice_cmp nat_cmp

abbrev pub keys_of : Members → List (List ℕ)
keys_of no_members = []
keys_of (member k d ms) = k ∷ keys_of ms

-- each key is below those after it
abbrev pub Ascend : List (List ℕ) → Type 0
Ascend [] = Unit {0}
Ascend (k ∷ ks) = AllByRecursion (λ l. key_cmp k l ≡ Less) ks × Ascend ks

-- these keys are among the members
abbrev pub AreThere : List (List ℕ) → Members → Type 0
AreThere ks ms = AllByRecursion (λ k. is_some (get_member k ms) ≡ true) ks

-- ---- order

same_key : (k l : List ℕ) → key_cmp k l ≡ Equal → k ≡ l
same_key k l e = (bytes_eq-Decides k l).0 (sym (is_eq-slice_cmp k l) ∙ ap is_eq e)

pub turned : (k l : List ℕ) (o : Ordering) → key_cmp k l ≡ o → key_cmp l k ≡ ordering_reverse o
turned k l o e = nat_list_cmp_total.antisymm l k ∙ ap ordering_reverse e

-- what is above a key is above those below it
pub all_above : (k l : List ℕ) (ks : List (List ℕ)) → key_cmp k l ≡ Less → AllByRecursion (λ m. key_cmp l m ≡ Less) ks → AllByRecursion (λ m. key_cmp k m ≡ Less) ks
all_above k l [] e h = tt
all_above k l (m ∷ ks) e h = (nat_list_cmp_total.trans k l m e h.0, all_above k l ks e h.1)

-- ---- looking up

later : (o : Ordering) (a b : Option Data) → (o ≡ Equal → ⊥) → match_ordering o a b a ≡ a
later Less a b other = refl
later Equal a b other = absurd (other refl)
later Greater a b other = refl

-- a key above the first is looked up among the rest
in_rest : (k l : List ℕ) (d : Data) (ms : Members) → key_cmp l k ≡ Less → get_member k (member l d ms) ≡ get_member k ms
in_rest k l d ms above = later (key_cmp k l) (get_member k ms) (Some d) (λ e. cc (turned l k Less above))

all_in_rest : (ks : List (List ℕ)) (l : List ℕ) (d : Data) (ms : Members) → AllByRecursion (λ k. key_cmp l k ≡ Less) ks → AreThere ks (member l d ms) → AreThere ks ms
all_in_rest [] l d ms above there = tt
all_in_rest (k ∷ ks) l d ms above there = (ap is_some (sym (in_rest k l d ms above.0)) ∙ there.0, all_in_rest ks l d ms above.1 there.1)

-- a key below all of them is not there
below_all : (k : List ℕ) (ms : Members) → AllByRecursion (λ l. key_cmp k l ≡ Less) (keys_of ms) → get_member k ms ≡ None
below_all k no_members h = refl
below_all k (member l d ms) h = later (key_cmp k l) (get_member k ms) (Some d) (λ e. cc (h.0)) ∙ below_all k ms h.1

length-keys_of : (ms : Members) → length (keys_of ms) ≡ count_members ms
length-keys_of no_members = refl
length-keys_of (member k d ms) = ap suc (length-keys_of ms)

none_there : (k : List ℕ) (ms : Members) → is_some (get_member k ms) ≡ true → get_member k ms ≡ None → ⊥
none_there k ms there none = true≢false (sym there ∙ ap is_some none)

-- one member more in front of those for which it is known
first_same : (k l : List ℕ) (ks : List (List ℕ)) (d : Data) (ms : Members) → k ≡ l → (length ks < count_members ms) ⊎ (keys_of ms ≡ ks)
    → (length (k ∷ ks) < count_members (member l d ms)) ⊎ (keys_of (member l d ms) ≡ k ∷ ks)
first_same k l ks d ms same (inl fewer) = inl (omega arith)
first_same k l ks d ms same (inr all) = inr (ap₂ (λ x xs. x ∷ xs) (sym same) all)

first_other : (ks : List (List ℕ)) (l : List ℕ) (d : Data) (ms : Members) → (length ks < count_members ms) ⊎ (keys_of ms ≡ ks) → length ks < count_members (member l d ms)
first_other ks l d ms (inl fewer) = omega arith
first_other ks l d ms (inr all) = omega (arith, length-keys_of ms, ap length all)

by_first : (o : Ordering) (k : List ℕ) (ks : List (List ℕ)) (l : List ℕ) (d : Data) (ms : Members) → key_cmp k l ≡ o → Ascend (k ∷ ks) → Ascend (l ∷ keys_of ms) → AreThere (k ∷ ks) (member l d ms)
    → (AreThere ks ms → (length ks < count_members ms) ⊎ (keys_of ms ≡ ks)) → (AreThere (k ∷ ks) ms → (length (k ∷ ks) < count_members ms) ⊎ (keys_of ms ≡ k ∷ ks))
    → (length (k ∷ ks) < count_members (member l d ms)) ⊎ (keys_of (member l d ms) ≡ k ∷ ks)
by_first Less k ks l d ms is up sorted there rest all = absurd (none_there k (member l d ms) there.0 (below_all k (member l d ms) (is, all_above k l (keys_of ms) is sorted.0)))
by_first Equal k ks l d ms is up sorted there rest all =
    let above = subst (λ x. AllByRecursion (λ m. key_cmp x m ≡ Less) ks) (same_key k l is) up.0 in
    first_same k l ks d ms (same_key k l is) (rest (all_in_rest ks l d ms above there.1))
by_first Greater k ks l d ms is up sorted there rest all =
    let above = turned k l Greater is in
    inl (first_other (k ∷ ks) l d ms (all (all_in_rest (k ∷ ks) l d ms (above, all_above l k ks above up.0) there)))

-- Keys in order that are all there are fewer than the members, or are the keys of the members.
fewer_or_all : (ks : List (List ℕ)) (ms : Members) → Ascend ks → Ascend (keys_of ms) → AreThere ks ms → (length ks < count_members ms) ⊎ (keys_of ms ≡ ks)
fewer_or_all [] no_members up sorted there = inr refl
fewer_or_all [] (member l d ms) up sorted there = inl (omega arith)
fewer_or_all (k ∷ ks) no_members up sorted there = absurd (true≢false (sym there.0))
fewer_or_all (k ∷ ks) (member l d ms) up sorted there = by_first (key_cmp k l) k ks l d ms refl up sorted there (fewer_or_all ks ms up.1 sorted.1) (fewer_or_all (k ∷ ks) ms up sorted.1)

-- As many keys in order as there are members, and all of them there, are the keys of the members.
pub all_keys : (ks : List (List ℕ)) (ms : Members) → Ascend ks → Ascend (keys_of ms) → AreThere ks ms → length ks ≡ count_members ms → keys_of ms ≡ ks
all_keys ks ms up sorted there many = elim (fewer_or_all ks ms up sorted there) [ inl fewer ↦ absurd (omega arith) | inr all ↦ all ]

-- the members with these three keys
pub three_members : (a b c : List ℕ) (ms : Members) → keys_of ms ≡ a ∷ b ∷ c ∷ [] → (x y z : Data) × (ms ≡ member a x (member b y (member c z no_members)))
three_members a b c no_members e = absurd cc
three_members a b c (member k x no_members) e = absurd cc
three_members a b c (member k x (member l y no_members)) e = absurd cc
three_members a b c (member k x (member l y (member m z no_members))) e = (x, y, z, cc)
three_members a b c (member k x (member l y (member m z (member n w ms)))) e = absurd cc

-- the members with these two keys, and with these four
pub two_members : (a b : List ℕ) (ms : Members) → keys_of ms ≡ a ∷ b ∷ [] → (x y : Data) × (ms ≡ member a x (member b y no_members))
two_members a b no_members e = absurd cc
two_members a b (member k x no_members) e = absurd cc
two_members a b (member k x (member l y no_members)) e = (x, y, cc)
two_members a b (member k x (member l y (member m z ms))) e = absurd cc

pub four_members : (a b c d : List ℕ) (ms : Members) → keys_of ms ≡ a ∷ b ∷ c ∷ d ∷ [] → (x y z w : Data) × (ms ≡ member a x (member b y (member c z (member d w no_members))))
four_members a b c d no_members e = absurd cc
four_members a b c d (member k x no_members) e = absurd cc
four_members a b c d (member k x (member l y no_members)) e = absurd cc
four_members a b c d (member k x (member l y (member m z no_members))) e = absurd cc
four_members a b c d (member k x (member l y (member m z (member n w no_members)))) e = (x, y, z, w, cc)
four_members a b c d (member k x (member l y (member m z (member n w (member o v ms))))) e = absurd cc

-- the member with this key
pub one_member : (a : List ℕ) (ms : Members) → keys_of ms ≡ a ∷ [] → (x : Data) × (ms ≡ member a x no_members)
one_member a no_members e = absurd cc
one_member a (member k x no_members) e = (x, cc)
one_member a (member k x (member l y ms)) e = absurd cc
