-- Reads that were judged one after the other.
use Rattle.std.proofs.Common.{◌≡◌, ℕ, suc, ◌+◌, ◌<◌, ◌≤◌, List, [], ◌∷◌, ◌++◌, length, drop, get_or, min, map, set, zero, Bool, true, false, Option, refl, sym, ◌∙◌, ap, subst, arith, inl, inr}
use Rattle.std.specs.Prelude.{if◌then◌else◌}
use Rattle.std.proofs.lemmas.Bool.{cases_lt}
use Rattle.std.proofs.lemmas.List.{drop_all, length-map}
use Rattle.machine.specs.declared.command.Command.{Command}
use Rattle.machine.specs.declared.reads.Read.{Read}
use Rattle.machine.specs.declared.reads.ReadAnswer.{ReadAnswer}
use Rattle.machine.specs.declared.reply.Reply.{Reply}
use Rattle.machine.specs.Answers.{Matches}
use Rattle.machine.specs.Lawful.{Asked, IsAsked, is_pattern, next_told, told_after, asked_in, asked_of, reads_of, answers_in, ends, patterns_in}
use Rattle.machine.proofs.OneSession.{all-append}
use Rattle.machine.proofs.OnlyPlain.{all-left, all-right}
use Rattle.snapshot_check.specs.Judged.{HasUntold, IsJudged}
use Rattle.snapshot_check.proofs.Dropped.{dropped, drop_behind}

untold_left : (xs ys : List Asked) → HasUntold xs → HasUntold (xs ++ ys)
untold_left [] ys u = absurd u
untold_left (x ∷ xs) ys (inl u) = inl u
untold_left (x ∷ xs) ys (inr u) = inr (untold_left xs ys u)

untold_right : (xs ys : List Asked) → HasUntold ys → HasUntold (xs ++ ys)
untold_right [] ys u = u
untold_right (x ∷ xs) ys u = inr (untold_right xs ys u)

pub judged-append : (b : Bool) (t : List ℕ) (xs ys : List Asked) → IsJudged true t xs → IsJudged b t ys → IsJudged b t (xs ++ ys)
judged-append true t xs ys right later = all-append (IsAsked t) xs ys right later
judged-append false t xs ys right (inl wrong) = inl (λ all. wrong (all-right (IsAsked t) xs ys all))
judged-append false t xs ys right (inr u) = inr (untold_right xs ys u)

pub judged-front : (t : List ℕ) (xs ys : List Asked) → IsJudged false t xs → IsJudged false t (xs ++ ys)
judged-front t xs ys (inl wrong) = inl (λ all. wrong (all-left (IsAsked t) xs ys all))
judged-front t xs ys (inr u) = inr (untold_left xs ys u)

-- the told hits behind a read
told_behind : (b : Bool) (told : List (Option Matches)) → drop (if b then 1 else 0) told ≡ (if b then drop 1 told else told)
told_behind true told = refl
told_behind false told = refl

pub told_next : (told : List (Option Matches)) (r : Read) (p n m : ℕ) → n ≡ (if is_pattern r then 1 else 0) → m ≡ min (p + n) (length told) → drop m told ≡ told_after r (drop p told)
told_next told r p n m one is = drop_behind p n m told is ∙ ap (λ k. drop k (drop p told)) one ∙ told_behind (is_pattern r) (drop p told)

-- a read with its answer, in front of the others
abbrev pub first_asked : List (Option Matches) → Read → ReadAnswer → List Asked
first_asked told r a = record { told = next_told told; read = r; answer = a } ∷ []

asked_at : (told : List (Option Matches)) (rs : List Read) (as_ : List ReadAnswer) (i : ℕ) (r : Read) (a : ReadAnswer) → i < length rs → i < length as_ → r ≡ get_or rs i r → a ≡ get_or as_ i a
    → asked_in told (drop i rs) (drop i as_) ≡ first_asked told r a ++ asked_in (told_after r told) (drop (i + 1) rs) (drop (i + 1) as_)
asked_at told rs as_ i r a h k left right = ap (λ l. asked_in told l (drop i as_)) (dropped rs i r h left) ∙ ap (λ l. asked_in told (r ∷ drop (i + 1) rs) l) (dropped as_ i a k right)

pub reads_more : (t : List ℕ) (told : List (Option Matches)) (rs : List Read) (as_ : List ReadAnswer) (i p n m : ℕ) (r : Read) (a : ReadAnswer) → i < length rs → i < length as_ → r ≡ get_or rs i r → a ≡ get_or as_ i a
    → n ≡ (if is_pattern r then 1 else 0) → m ≡ min (p + n) (length told) → IsJudged true t (first_asked (drop p told) r a)
    → (b : Bool) → IsJudged b t (asked_in (drop m told) (drop (i + 1) rs) (drop (i + 1) as_)) → IsJudged b t (asked_in (drop p told) (drop i rs) (drop i as_))
reads_more t told rs as_ i p n m r a h k left right one is here b later =
    subst (IsJudged b t) (sym (asked_at (drop p told) rs as_ i r a h k left right))
    (judged-append b t (first_asked (drop p told) r a) _ here (subst (λ (l : List (Option Matches)). IsJudged b t (asked_in l (drop (i + 1) rs) (drop (i + 1) as_))) (told_next told r p n m one is) later))

pub reads_fault : (t : List ℕ) (told : List (Option Matches)) (rs : List Read) (as_ : List ReadAnswer) (i p : ℕ) (r : Read) (a : ReadAnswer) → i < length rs → i < length as_ → r ≡ get_or rs i r → a ≡ get_or as_ i a
    → IsJudged false t (first_asked (drop p told) r a) → IsJudged false t (asked_in (drop p told) (drop i rs) (drop i as_))
reads_fault t told rs as_ i p r a h k left right here =
    subst (IsJudged false t) (sym (asked_at (drop p told) rs as_ i r a h k left right)) (judged-front t (first_asked (drop p told) r a) _ here)

none_asked : (told : List (Option Matches)) (rs : List Read) → asked_in told rs [] ≡ []
none_asked told [] = refl
none_asked told (r ∷ rs) = refl

pub reads_end : (t : List ℕ) (told : List (Option Matches)) (rs : List Read) (as_ : List ReadAnswer) (i : ℕ) → min (length rs) (length as_) ≤ i → IsJudged true t (asked_in told (drop i rs) (drop i as_))
reads_end t told rs as_ i over = elim (cases_lt i (length rs)) [
  | inl under ↦ subst (IsJudged true t) (sym (ap (λ l. asked_in told (drop i rs) l) (drop_all i as_ (omega (arith, over, under))) ∙ none_asked told (drop i rs))) tt
  | inr past ↦ subst (IsJudged true t) (sym (ap (λ l. asked_in told l (drop i as_)) (drop_all i rs past))) tt
]

-- the same for the commands behind a take
of_at : (k : ℕ) (told : List (Option Matches)) (cs : List Command) (rs : List Reply) (i : ℕ) (c : Command) (r : Reply) → i < length cs → i < length rs → c ≡ get_or cs i c → r ≡ get_or rs i r
    → asked_of k told (drop i cs) (drop i rs) ≡ asked_in told (reads_of k c) (answers_in r) ++ (if ends k c then [] else asked_of k (drop (patterns_in c) told) (drop (i + 1) cs) (drop (i + 1) rs))
of_at k told cs rs i c r h j left right = ap (λ l. asked_of k told l (drop i rs)) (dropped cs i c h left) ∙ ap (λ l. asked_of k told (c ∷ drop (i + 1) cs) l) (dropped rs i r j right)

pub take_more : (t : List ℕ) (k : ℕ) (told : List (Option Matches)) (cs : List Command) (rs : List Reply) (i p m : ℕ) (c : Command) (r : Reply) → i < length cs → i < length rs → c ≡ get_or cs i c → r ≡ get_or rs i r
    → m ≡ min (p + patterns_in c) (length told) → ends k c ≡ false → IsJudged true t (asked_in (drop p told) (reads_of k c) (answers_in r))
    → (b : Bool) → IsJudged b t (asked_of k (drop m told) (drop (i + 1) cs) (drop (i + 1) rs)) → IsJudged b t (asked_of k (drop p told) (drop i cs) (drop i rs))
take_more t k told cs rs i p m c r h j left right is goes here b later =
    subst (IsJudged b t) (sym (of_at k (drop p told) cs rs i c r h j left right ∙ ap (λ (x : Bool). asked_in (drop p told) (reads_of k c) (answers_in r) ++ (if x then [] else asked_of k (drop (patterns_in c) (drop p told)) (drop (i + 1) cs) (drop (i + 1) rs))) goes))
    (judged-append b t (asked_in (drop p told) (reads_of k c) (answers_in r)) _ here
    (subst (λ (l : List (Option Matches)). IsJudged b t (asked_of k l (drop (i + 1) cs) (drop (i + 1) rs))) (drop_behind p (patterns_in c) m told is) later))

pub take_ends : (t : List ℕ) (k : ℕ) (told : List (Option Matches)) (cs : List Command) (rs : List Reply) (i p : ℕ) (c : Command) (r : Reply) → i < length cs → i < length rs → c ≡ get_or cs i c → r ≡ get_or rs i r
    → ends k c ≡ true → IsJudged true t (asked_in (drop p told) (reads_of k c) (answers_in r)) → IsJudged true t (asked_of k (drop p told) (drop i cs) (drop i rs))
take_ends t k told cs rs i p c r h j left right stops here =
    subst (IsJudged true t) (sym (of_at k (drop p told) cs rs i c r h j left right ∙ ap (λ (x : Bool). asked_in (drop p told) (reads_of k c) (answers_in r) ++ (if x then [] else asked_of k (drop (patterns_in c) (drop p told)) (drop (i + 1) cs) (drop (i + 1) rs))) stops))
    (judged-append true t (asked_in (drop p told) (reads_of k c) (answers_in r)) [] here tt)

pub take_fault : (t : List ℕ) (k : ℕ) (told : List (Option Matches)) (cs : List Command) (rs : List Reply) (i p : ℕ) (c : Command) (r : Reply) → i < length cs → i < length rs → c ≡ get_or cs i c → r ≡ get_or rs i r
    → IsJudged false t (asked_in (drop p told) (reads_of k c) (answers_in r)) → IsJudged false t (asked_of k (drop p told) (drop i cs) (drop i rs))
take_fault t k told cs rs i p c r h j left right here =
    subst (IsJudged false t) (sym (of_at k (drop p told) cs rs i c r h j left right)) (judged-front t (asked_in (drop p told) (reads_of k c) (answers_in r)) _ here)

none_of : (k : ℕ) (told : List (Option Matches)) (cs : List Command) → asked_of k told cs [] ≡ []
none_of k told [] = refl
none_of k told (c ∷ cs) = refl

pub take_end : (t : List ℕ) (k : ℕ) (told : List (Option Matches)) (cs : List Command) (rs : List Reply) (i : ℕ) → min (length cs) (length rs) ≤ i → IsJudged true t (asked_of k told (drop i cs) (drop i rs))
take_end t k told cs rs i over = elim (cases_lt i (length cs)) [
  | inl under ↦ subst (IsJudged true t) (sym (ap (λ l. asked_of k told (drop i cs) l) (drop_all i rs (omega (arith, over, under))) ∙ none_of k told (drop i cs))) tt
  | inr past ↦ subst (IsJudged true t) (sym (ap (λ l. asked_of k told l (drop i rs)) (drop_all i cs past))) tt
]

-- what was judged of a read, told and found
pub judged_so : (b c : Bool) (t : List ℕ) (p : ℕ) (l told : List (Option Matches)) (r : Read) (a : ReadAnswer) → b ≡ c → l ≡ told → IsJudged b t (first_asked (drop p l) r a) → IsJudged c t (first_asked (drop p told) r a)
judged_so b c t p l told r a flag same here = subst (λ (x : Bool). IsJudged x t (first_asked (drop p told) r a)) flag (subst (λ (xs : List (Option Matches)). IsJudged b t (first_asked (drop p xs) r a)) same here)

pub command_judged : (b c : Bool) (t : List ℕ) (k p : ℕ) (l told : List (Option Matches)) (d : Command) (r : Reply) → b ≡ c → l ≡ told → IsJudged b t (asked_in (drop p l) (reads_of k d) (answers_in r)) → IsJudged c t (asked_in (drop p told) (reads_of k d) (answers_in r))
command_judged b c t k p l told d r flag same here = subst (λ (x : Bool). IsJudged x t (asked_in (drop p told) (reads_of k d) (answers_in r))) flag
    (subst (λ (xs : List (Option Matches)). IsJudged b t (asked_in (drop p xs) (reads_of k d) (answers_in r))) same here)

-- the hits that are told of the pattern of a matcher
pub next_there : {X : Type 0} (f : X → Option Matches) (xs : List X) (at : ℕ) (y : X) → at < length xs → y ≡ get_or xs at y → next_told (drop at (map f xs)) ≡ f y
next_there f [] at y h is = absurd (omega (arith, h))
next_there f (x ∷ xs) zero y h is = ap f (sym is)
next_there f (x ∷ xs) (suc at) y h is = next_there f xs at y (omega (arith, h)) is

-- a matcher that was used tells the same
pub set_same : {X Y : Type 0} (f : X → Y) (xs : List X) (i : ℕ) (x y : X) → y ≡ get_or xs i y → f x ≡ f y → map f (set xs i x) ≡ map f xs
set_same f [] i x y is same = refl
set_same f (z ∷ zs) zero x y is same = ap (λ w. w ∷ map f zs) (same ∙ ap f is)
set_same f (z ∷ zs) (suc i) x y is same = ap (λ ws. f z ∷ ws) (set_same f zs i x y is same)

-- as many hits are told as there are matchers
pub told_long : {X : Type 0} (f : X → Option Matches) (xs ys lent : List X) (told : List (Option Matches)) (n m k : ℕ) → lent ≡ ys → map f ys ≡ map f xs → map f xs ≡ told → n ≡ min (m + k) (length lent) → n ≡ min (m + k) (length told)
told_long f xs ys lent told n m k is same all e = e ∙ ap (min (m + k)) (ap length is ∙ (sym (length-map ys f) ∙ ap length (same ∙ all)))
