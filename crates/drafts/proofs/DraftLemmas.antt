-- Files of a folder over calls for several names.
use Rattle.std.proofs.Common.{◌≡◌, ℕ, suc, ◌+◌, ◌<◌, ◌≤◌, ◌⊎◌, inl, inr, ◌||◌, not, List, [], ◌∷◌, ◌++◌, length, drop, map, get_or, Bool, true, false, Option, Some, None, refl, sym, ap, subst, ◌∙◌, arith, add-one, drop-cons, append_assoc, append-nil, take, Bor}
use Rattle.std.specs.Prelude.{nat_lt, is_some, Result, Ok, Err, is_err, OnOk}
use Rattle.std.specs.List.{AllByRecursion}
use Rattle.std.specs.Str.{bytes_eq}
use Rattle.std.proofs.lemmas.Bool.{false≢true, and_parts}
use Rattle.std.proofs.lemmas.Bool.Decides.{nat_tests}
use Rattle.std.proofs.Math.ListN.{drop_of_length-le}
use Rattle.std.proofs.lemmas.List.{length-drop}
use Rattle.std.proofs.lemmas.Slice.Eq.{bytes_eq-Decides}
use Rattle.std.proofs.lemmas.List.Folds.{list_any-append}
use Rattle.outer.specs.Count.{Rose}
use Rattle.outer.specs.Folder.{Files, HasName, KeepsOthers, KeepsAll, Holds}
use Rattle.outer.proofs.Counts.{Rose-after, Rose-before}
use Rattle.drafts.specs.Drafts.{is_among, are_apart, KeepsBut, HasNames, HoldEach, has_faulty}

-- ---- giving up

-- a folder that wasn't called
pub kept_self : (told : Option Files) → KeepsAll told told
kept_self None = tt
kept_self (Some files) = λ name. refl

or_parts : (x y : Bool) → (x || y) ≡ true → (x ≡ true) ⊎ (y ≡ true)
or_parts true y h = inl refl
or_parts false y h = inr h

module _ {K : Type 0} (faults : K → ℕ) where
  above : (n : ℕ) → (nat_lt 0 n || false) ≡ true → 0 < n
  above n h = grind (arith, nat_tests, h)

  -- the last of some sinks is given up
  pub rises_more : (all old new : List K) (k : K) (first before after : ℕ) → old ≡ new ++ k ∷ [] → first ≤ before → before ≤ after → (0 < faults k → Rose before after)
      → (has_faulty faults all ≡ true → (has_faulty faults old ≡ true) ⊎ Rose first before) → has_faulty faults all ≡ true → (has_faulty faults new ≡ true) ⊎ Rose first after
  rises_more all old new k first before after is grew grows rises so_far h =
      elim (so_far h) [
        | inl left ↦ elim (or_parts (has_faulty faults new) (nat_lt 0 (faults k) || false) (sym (ap (has_faulty faults) is ∙ list_any-append (λ x. nat_lt 0 (faults x)) new (k ∷ [])) ∙ left)) [
          | inl more ↦ inl more
          | inr last ↦ inr (Rose-after first before after grew (rises (above (faults k) last)))
        ]
        | inr rose ↦ inr (Rose-before first before after grew rose grows)
      ]

  none_faulty : (sinks : List K) → sinks ≡ [] → has_faulty faults sinks ≡ true → ⊥
  none_faulty sinks none h = absurd (false≢true (sym (ap (has_faulty faults) none) ∙ h))

  pub rises_all : (all sinks : List K) (first after : ℕ) → sinks ≡ [] → (has_faulty faults all ≡ true → (has_faulty faults sinks ≡ true) ⊎ Rose first after) → has_faulty faults all ≡ true → Rose first after
  rises_all all sinks first after none so_far h = elim (so_far h) [ inl left ↦ absurd (none_faulty sinks none left) | inr rose ↦ rose ]

-- ---- files

is_other : (name other : List ℕ) (b : Bool) → bytes_eq other name ≡ b → b ≡ false → other ≡ name → ⊥
is_other name other b is isnt same = absurd (false≢true (sym isnt ∙ sym is ∙ (bytes_eq-Decides other name).1 same))

or_none : (x y : Bool) → (x || y) ≡ false → (x ≡ false) × (y ≡ false)
or_none true y h = absurd (false≢true (sym h))
or_none false y h = (refl, h)

pub keeps_self : (names : List (List ℕ)) (told : Option Files) → KeepsBut names told told
keeps_self names None = tt
keeps_self names (Some files) = λ other apart. refl

pub keeps_all : (names : List (List ℕ)) (before after : Option Files) → KeepsAll before after → KeepsBut names before after
keeps_all names before None all = tt
keeps_all names None (Some files) all = absurd all
keeps_all names (Some had) (Some files) all = λ other apart. all other

-- a call for one name, and then calls for others
pub keeps_first : (name : List ℕ) (names : List (List ℕ)) (first between last : Option Files) → KeepsOthers name first between → KeepsBut names between last → KeepsBut (name ∷ names) first last
keeps_first name names first between None one more = tt
keeps_first name names first None (Some files) one more = absurd more
keeps_first name names None (Some had) (Some files) one more = absurd one
keeps_first name names (Some start) (Some had) (Some files) one more = λ other apart.
    let parts = or_none (bytes_eq other name) (is_among names other) apart in
    more other parts.1 ∙ one other (is_other name other (bytes_eq other name) refl parts.0)

-- a name that isn't among those still has its file, and what it holds
pub has_still : (name : List ℕ) (names : List (List ℕ)) (before after : Option Files) → is_among names name ≡ false → KeepsBut names before after → HasName name before → HasName name after
has_still name names before None apart keeps has = tt
has_still name names None (Some files) apart keeps has = absurd keeps
has_still name names (Some had) (Some files) apart keeps has = ap is_some (keeps name apart) ∙ has

pub holds_still : (name : List ℕ) (names : List (List ℕ)) (taken : Option (List ℕ)) (before after : Option Files) → is_among names name ≡ false → KeepsBut names before after → Holds name taken before → Holds name taken after
holds_still name names taken before None apart keeps holds = tt
holds_still name names taken None (Some files) apart keeps holds = absurd keeps
holds_still name names None (Some had) (Some files) apart keeps holds = absurd holds
holds_still name names (Some bytes) (Some had) (Some files) apart keeps holds = keeps name apart ∙ holds

-- after a call for one name every other has its file still
has_other : (name other : List ℕ) (before after : Option Files) (b : Bool) → bytes_eq other name ≡ b → b ≡ false → KeepsOthers name before after → HasName other before → HasName other after
has_other name other before None b is isnt keeps has = tt
has_other name other None (Some files) b is isnt keeps has = absurd keeps
has_other name other (Some had) (Some files) b is isnt keeps has = ap is_some (keeps other (is_other name other b is isnt)) ∙ has

has_either : (name other : List ℕ) (before after : Option Files) (b : Bool) → bytes_eq other name ≡ b → KeepsOthers name before after → HasName name after → HasName other before → HasName other after
has_either name other before after true is keeps there has = subst (λ n. HasName n after) (sym ((bytes_eq-Decides other name).0 is)) there
has_either name other before after false is keeps there has = has_other name other before after false is refl keeps has

pub have_either : (name : List ℕ) (names : List (List ℕ)) (before after : Option Files) → KeepsOthers name before after → HasName name after → HasNames names before → HasNames names after
have_either name [] before after keeps there has = tt
have_either name (other ∷ names) before after keeps there has = (has_either name other before after (bytes_eq other name) refl keeps there has.0, have_either name names before after keeps there has.1)

bytes_eq-turned : (a b : List ℕ) (x : Bool) → bytes_eq a b ≡ x → bytes_eq b a ≡ false → x ≡ false
bytes_eq-turned a b true is isnt = absurd (false≢true (sym isnt ∙ (bytes_eq-Decides b a).1 (sym ((bytes_eq-Decides a b).0 is))))
bytes_eq-turned a b false is isnt = refl

pub have_others : (name : List ℕ) (names : List (List ℕ)) (before after : Option Files) → is_among names name ≡ false → KeepsOthers name before after → HasNames names before → HasNames names after
have_others name [] before after apart keeps has = tt
have_others name (other ∷ names) before after apart keeps has =
    let parts = or_none (bytes_eq name other) (is_among names name) apart in (
      has_other name other before after (bytes_eq other name) refl (bytes_eq-turned other name (bytes_eq other name) refl parts.0) keeps has.0,
      have_others name names before after parts.1 keeps has.1,
    )

-- ---- steps

pub rest_at : {X : Type 0} (xs : List X) (i : ℕ) (x : X) → i < length xs → x ≡ get_or xs i x → drop i xs ≡ x ∷ drop (i + 1) xs
rest_at xs i x within at = rw add-one (drop-cons xs i x within ∙ ap (λ y. y ∷ drop (suc i) xs) (sym at))

-- sinks are kept under these names, of which some are left
pub record IsKeeping (names rest : List (List ℕ)) (taken left : List (Option (List ℕ))) (first now : Option Files) : Type 0 where
  pub others : (last : Option Files) → KeepsBut rest now last → KeepsBut names first last
  pub there : HasNames rest now
  pub apart : are_apart rest ≡ true
  pub hold : (last : Option Files) → KeepsBut rest now last → HoldEach rest left last → HoldEach names taken last

pub keeping_first : (names : List (List ℕ)) (taken : List (Option (List ℕ))) (first : Option Files) → HasNames names first → are_apart names ≡ true → IsKeeping names names taken taken first first
keeping_first names taken first there apart = record { others = λ last keeps. keeps; there = there; apart = apart; hold = λ last keeps holds. holds }

pub keeping_more : (names rest : List (List ℕ)) (taken left : List (Option (List ℕ))) (name : List ℕ) (t : Option (List ℕ)) (first before after : Option Files) → KeepsOthers name before after → Holds name t after
    → IsKeeping names (name ∷ rest) taken (t ∷ left) first before → IsKeeping names rest taken left first after
keeping_more names rest taken left name t first before after keeps holds so_far =
    let parts = and_parts (not (is_among rest name)) (are_apart rest) so_far.apart in
    let isnt : is_among rest name ≡ false = no_test (is_among rest name) parts.0 in
    record {
      others = λ last more. so_far.others last (keeps_first name rest before after last keeps more);
      there = have_others name rest before after isnt keeps so_far.there.1;
      apart = parts.1;
      hold = λ last more each. so_far.hold last (keeps_first name rest before after last keeps more) (holds_still name rest t after last isnt more holds, each);
    }
  where
    no_test : (b : Bool) → not b ≡ true → b ≡ false
    no_test true h = absurd (false≢true h)
    no_test false h = refl

-- what holds of all and of one more
pub all_end : {A : Type 0} (P : A → Type 0) (xs : List A) (x : A) → AllByRecursion P xs → P x → AllByRecursion P (xs ++ x ∷ [])
all_end P [] x all one = (one, tt)
all_end P (y ∷ ys) x all one = (all.0, all_end P ys x all.1 one)

-- sinks are made for these names, of which some are left
pub record IsMaking (names rest : List (List ℕ)) (first now : Option Files) : Type 0 where
  pub made : List (List ℕ)
  pub parts : made ++ rest ≡ names
  pub has : HasNames made now
  pub others : (last : Option Files) → KeepsBut rest now last → KeepsBut names first last

pub making_first : (names : List (List ℕ)) (first : Option Files) → IsMaking names names first first
making_first names first = record { made = []; parts = refl; has = tt; others = λ last keeps. keeps }

pub making_more : (names rest : List (List ℕ)) (name : List ℕ) (first before after : Option Files) → KeepsOthers name before after → HasName name after → IsMaking names (name ∷ rest) first before → IsMaking names rest first after
making_more names rest name first before after keeps there so_far =
    record {
      made = so_far.made ++ name ∷ [];
      parts = append_assoc so_far.made (name ∷ []) rest ∙ so_far.parts;
      has = all_end (λ n. HasName n after) so_far.made name (have_either name so_far.made before after keeps there so_far.has) there;
      others = λ last more. so_far.others last (keeps_first name rest before after last keeps more);
    }

-- a call for the next name failed, and all else stayed
pub making_failed : (names rest : List (List ℕ)) (name : List ℕ) (first before between after : Option Files) → KeepsOthers name before between → KeepsAll between after → IsMaking names (name ∷ rest) first before → KeepsBut names first after
making_failed names rest name first before between after keeps all so_far = so_far.others after (keeps_first name rest before between after keeps (keeps_all rest between after all))

pub keeping_failed : (names rest : List (List ℕ)) (taken left : List (Option (List ℕ))) (name : List ℕ) (first before between after : Option Files) → KeepsOthers name before between → KeepsAll between after
    → IsKeeping names (name ∷ rest) taken left first before → KeepsBut names first after
keeping_failed names rest taken left name first before between after keeps all so_far = so_far.others after (keeps_first name rest before between after keeps (keeps_all rest between after all))

-- no name is left
pub making_all : (names : List (List ℕ)) (first now : Option Files) → IsMaking names [] first now → HasNames names now × KeepsBut names first now
making_all names first now so_far = (subst (λ ns. HasNames ns now) (sym (append-nil so_far.made) ∙ so_far.parts) so_far.has, so_far.others now (keeps_self [] now))

pub keeping_all : (names : List (List ℕ)) (taken : List (Option (List ℕ))) (first now : Option Files) → IsKeeping names [] taken [] first now → HoldEach names taken now × KeepsBut names first now
keeping_all names taken first now so_far = (so_far.hold now (keeps_self [] now) tt, so_far.others now (keeps_self [] now))

-- ---- lists of names and of sinks

-- the names that are left: the next one, and those behind it
abbrev pub names_of : List (Bor (List ℕ)) → List (List ℕ)
names_of xs = map (λ n. n.now) xs

-- what stands in place of a name that isn't there
abbrev pub no_name : Bor (List ℕ)
no_name = record { ref_ptr = (0, 0); now = [] }

pub next_names : (xs : List (Bor (List ℕ))) (i : ℕ) (d : Bor (List ℕ)) → i < length xs → names_of (drop i xs) ≡ (get_or xs i d).now ∷ names_of (drop (i + 1) xs)
next_names xs i d within = ap names_of (drop-cons xs i d within) ∙ ap (λ n. (get_or xs i d).now ∷ names_of (drop n xs)) (sym (add-one i))

pub no_names : (xs : List (Bor (List ℕ))) (i : ℕ) → length xs ≤ i → names_of (drop i xs) ≡ []
no_names xs i past = ap names_of (drop_of_length-le xs {i = i} past)

pub one_left : {K : Type 0} (xs : List (Bor (List ℕ))) (i : ℕ) (sinks : List K) → i < length xs → length sinks ≡ length (drop i xs) → 0 < length sinks
one_left xs i sinks within many = omega (arith, within, many, length-drop i xs)

pub first_taken : {K : Type 0} (taken : K → Option (List ℕ)) (old new : List K) (k : K) → k ≡ get_or old 0 k → new ≡ take 0 old ++ drop 1 old → 0 < length old → map taken old ≡ taken k ∷ map taken new
first_taken taken [] new k at is len = absurd (omega (arith, len))
first_taken taken (x ∷ xs) new k at is len = ap (λ y. taken y ∷ map taken xs) (sym at) ∙ ap (λ ys. taken k ∷ map taken ys) (sym is)

pub fewer : {K : Type 0} (xs : List (Bor (List ℕ))) (i : ℕ) (old new : List K) → i < length xs → length old ≡ length (drop i xs) → new ≡ take 0 old ++ drop 1 old → length new ≡ length (drop (i + 1) xs)
fewer xs i old new within many is = omega (arith, within, many, ap length is, length-drop i xs, length-drop (i + 1) xs, length-drop 1 old)

pub no_sinks : {K : Type 0} (taken : K → Option (List ℕ)) (xs : List (Bor (List ℕ))) (i : ℕ) (sinks : List K) → length xs ≤ i → length sinks ≡ length (drop i xs) → map taken sinks ≡ []
no_sinks taken xs i [] past many = refl
no_sinks taken xs i (k ∷ ks) past many = absurd (omega (arith, past, many, ap length (drop_of_length-le xs {i = i} past)))

-- a call that answers no fault
pub when_ok : {T E P : Type 0} (r : Result T E) → is_err r ≡ false → OnOk r P → P
when_ok (Ok x) ok holds = holds
when_ok (Err e) ok holds = absurd (false≢true (sym ok))
