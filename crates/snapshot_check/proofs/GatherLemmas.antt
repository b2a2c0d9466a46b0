-- The takes of a transcript, as loops gather them.
use Rattle.std.proofs.Common.{◌≡◌, ℕ, zero, suc, ◌+◌, ◌<◌, ◌≤◌, List, [], ◌∷◌, ◌++◌, length, map, take, drop, get_or, min, Option, Some, None, refl, sym, ◌∙◌, ap, arith, inl, inr, append-nil, append_assoc}
use Rattle.std.specs.Prelude.{sum}
use Rattle.std.proofs.lemmas.Bool.{cases_lt}
use Rattle.std.proofs.lemmas.List.{drop_all, take_more, map-append}
use Rattle.std.proofs.lemmas.List.Sums.{sum_by-cons}
use Rattle.machine.specs.declared.command.Command.{Command}
use Rattle.machine.specs.declared.command.Command.TheVariants as command
use Rattle.machine.specs.declared.reply.Reply.{Reply}
use Rattle.machine.specs.declared.reply.Reply.TheVariants as reply
use Rattle.machine.specs.Answers.{Matches, number_of}
use Rattle.machine.specs.Lawful.{Taking, with_number, numbers, last_number, takings, all_takings, with_taking, patterns_in, patterns_of}
use Rattle.snapshot_check.specs.Takes.{Spot, placed, first_number}
use Rattle.snapshot_check.specs.Gathered.{of_session, left_in, taken_in, gathered, AreSame, IsStage}
use Rattle.snapshot_check.specs.declared.takes.Stage.{Stage}
use Rattle.snapshot_check.proofs.Dropped.{dropped, drop_behind}

-- numbers, one reply more
with_number-append : (o : Option ℕ) (ns ms : List ℕ) → with_number o (ns ++ ms) ≡ with_number o ns ++ ms
with_number-append None ns ms = refl
with_number-append (Some n) ns ms = refl

numbers-append : (rs ss : List Reply) → numbers (rs ++ ss) ≡ numbers rs ++ numbers ss
numbers-append [] ss = refl
numbers-append (r ∷ rs) ss = ap (with_number (number_of r)) (numbers-append rs ss) ∙ with_number-append (number_of r) (numbers rs) (numbers ss)

pub numbers_more : (rs : List Reply) (i : ℕ) (r : Reply) → i < length rs → r ≡ get_or rs i r → numbers (take (i + 1) rs) ≡ numbers (take i rs) ++ with_number (number_of r) []
numbers_more rs i r h is = ap numbers (take_more rs i r h) ∙ (numbers-append (take i rs) (get_or rs i r ∷ []) ∙ ap (λ (x : Reply). numbers (take i rs) ++ with_number (number_of x) []) (sym is))

pub numbers_from : (rs : List Reply) (i : ℕ) (r : Reply) → i < length rs → r ≡ get_or rs i r → numbers (drop i rs) ≡ with_number (number_of r) (numbers (drop (i + 1) rs))
numbers_from rs i r h is = ap numbers (dropped rs i r h is)

-- one take in front of the others
taking_front : (c : Command) (r : Reply) (i : ℕ) (earlier : List ℕ) (told : List (Option Matches)) (cs : List Command) (rs : List Reply) (rest : List Taking)
    → with_taking c r i earlier told cs rs rest ≡ with_taking c r i earlier told cs rs [] ++ rest
taking_front (command.Take k) (reply.Taken v) i earlier told cs rs rest = refl
taking_front _ _ i earlier told cs rs rest = refl

takings_at : (told : List (Option Matches)) (n : ℕ) (earlier : List ℕ) (cs : List Command) (rs : List Reply) (i : ℕ) (c : Command) (r : Reply) → i < length cs → i < length rs → c ≡ get_or cs i c → r ≡ get_or rs i r
    → takings told n earlier (drop i cs) (drop i rs) ≡ with_taking c r n earlier (drop (patterns_in c) told) (drop (i + 1) cs) (drop (i + 1) rs) []
    ++ takings (drop (patterns_in c) told) (n + 1) (earlier ++ with_number (number_of r) []) (drop (i + 1) cs) (drop (i + 1) rs)
takings_at told n earlier cs rs i c r h k left right = ap (λ l. takings told n earlier l (drop i rs)) (dropped cs i c h left) ∙ ap (λ l. takings told n earlier (c ∷ drop (i + 1) cs) l) (dropped rs i r k right)
    ∙ taking_front c r n earlier (drop (patterns_in c) told) (drop (i + 1) cs) (drop (i + 1) rs) _

pub session_step : (session : ℕ) (cs : List Command) (rs : List Reply) (i p q : ℕ) (told : List (Option Matches)) (c : Command) (r : Reply) → i < length cs → i < length rs → c ≡ get_or cs i c → r ≡ get_or rs i r
    → q ≡ min (p + patterns_in c) (length told) → left_in session cs rs i p told ≡ taken_in session c r cs rs i q told ++ left_in session cs rs (i + 1) q told
session_step session cs rs i p q told c r h k left right is =
    let behind : drop q told ≡ drop (patterns_in c) (drop p told) = drop_behind p (patterns_in c) q told is in
    ap (of_session session) (takings_at (drop p told) (i + 1) (numbers (take i rs)) cs rs i c r h k left right)
    ∙ map-append (λ (t : Taking). (session, t)) (with_taking c r (i + 1) (numbers (take i rs)) (drop (patterns_in c) (drop p told)) (drop (i + 1) cs) (drop (i + 1) rs) []) _
    ∙ ap (λ (l : List (Option Matches)). of_session session (with_taking c r (i + 1) (numbers (take i rs)) l (drop (i + 1) cs) (drop (i + 1) rs) [])
    ++ of_session session (takings l (i + 1 + 1) (numbers (take i rs) ++ with_number (number_of r) []) (drop (i + 1) cs) (drop (i + 1) rs))) (sym behind)
    ∙ ap (λ (ns : List ℕ). taken_in session c r cs rs i q told ++ of_session session (takings (drop q told) (i + 1 + 1) ns (drop (i + 1) cs) (drop (i + 1) rs))) (sym (numbers_more rs i r k right))

none_taken : (told : List (Option Matches)) (n : ℕ) (earlier : List ℕ) (cs : List Command) → takings told n earlier cs [] ≡ []
none_taken told n earlier [] = refl
none_taken told n earlier (c ∷ cs) = refl

pub session_end : (session : ℕ) (cs : List Command) (rs : List Reply) (i p : ℕ) (told : List (Option Matches)) → min (length cs) (length rs) ≤ i → left_in session cs rs i p told ≡ []
session_end session cs rs i p told over = elim (cases_lt i (length cs)) [
  | inl under ↦ ap (of_session session) (ap (λ l. takings (drop p told) (i + 1) (numbers (take i rs)) (drop i cs) l) (drop_all i rs (omega (arith, over, under))) ∙ none_taken (drop p told) (i + 1) (numbers (take i rs)) (drop i cs))
  | inr past ↦ ap (of_session session) (ap (λ l. takings (drop p told) (i + 1) (numbers (take i rs)) l (drop i rs)) (drop_all i cs past))
]

-- a step of the walk over a session
pub listed_more : (all session : ℕ) (cs : List Command) (rs : List Reply) (i p q : ℕ) (c : Command) (r : Reply) (spots more : List Spot) (total : List (Option Matches) → List (ℕ × Taking)) → i < length cs → i < length rs → c ≡ get_or cs i c → r ≡ get_or rs i r
    → q ≡ min (p + patterns_in c) all
    → ((told : List (Option Matches)) (d : Command) (s : Reply) → d ≡ get_or cs i d → s ≡ get_or rs i s → map (placed told) more ≡ gathered spots (taken_in session d s cs rs i q) told)
    → AreSame all (gathered spots (left_in session cs rs i p)) total → AreSame all (gathered more (left_in session cs rs (i + 1) q)) total
listed_more all session cs rs i p q c r spots more total h k left right is added so_far told long =
    let e : q ≡ min (p + patterns_in c) (length told) = is ∙ ap (min (p + patterns_in c)) (sym long) in
    ap (λ (l : List (ℕ × Taking)). l ++ left_in session cs rs (i + 1) q told) (added told c r left right)
    ∙ append_assoc (map (placed told) spots) (taken_in session c r cs rs i q told) (left_in session cs rs (i + 1) q told)
    ∙ ap (λ (l : List (ℕ × Taking)). map (placed told) spots ++ l) (sym (session_step session cs rs i p q told c r h k left right e))
    ∙ so_far told long

pub listed_end : (all session : ℕ) (cs : List Command) (rs : List Reply) (i p : ℕ) (spots : List Spot) (total : List (Option Matches) → List (ℕ × Taking)) → min (length cs) (length rs) ≤ i
    → AreSame all (gathered spots (left_in session cs rs i p)) total → AreSame all (gathered spots (λ _. [])) total
listed_end all session cs rs i p spots total over so_far told long = ap (λ (l : List (ℕ × Taking)). map (placed told) spots ++ l) (sym (session_end session cs rs i p told over)) ∙ so_far told long

-- a session more
abbrev pub sessions_left : List (List Command) → List (List Reply) → ℕ → ℕ → List (Option Matches) → List (ℕ × Taking)
sessions_left ss rr k p told = all_takings (drop p told) (k + 1) (drop k ss) (drop k rr)

pub sessions_more : (all : ℕ) (ss : List (List Command)) (rr : List (List Reply)) (k p q : ℕ) (cs : List Command) (rs : List Reply) (spots more : List Spot) (total : List (Option Matches) → List (ℕ × Taking)) → k < length ss → k < length rr → cs ≡ get_or ss k cs → rs ≡ get_or rr k rs
    → q ≡ min (p + patterns_of cs) all → AreSame all (gathered more (λ _. [])) (gathered spots (left_in (k + 1) cs rs 0 p))
    → AreSame all (gathered spots (sessions_left ss rr k p)) total → AreSame all (gathered more (sessions_left ss rr (k + 1) q)) total
sessions_more all ss rr k p q cs rs spots more total h j left right is added so_far told long =
    let e : q ≡ min (p + patterns_of cs) (length told) = is ∙ ap (min (p + patterns_of cs)) (sym long) in
    let here : sessions_left ss rr k p told ≡ left_in (k + 1) cs rs 0 p told ++ sessions_left ss rr (k + 1) q told =
    ap (λ l. all_takings (drop p told) (k + 1) l (drop k rr)) (dropped ss k cs h left) ∙ ap (λ l. all_takings (drop p told) (k + 1) (cs ∷ drop (k + 1) ss) l) (dropped rr k rs j right)
    ∙ ap (λ (l : List (Option Matches)). left_in (k + 1) cs rs 0 p told ++ all_takings l (k + 1 + 1) (drop (k + 1) ss) (drop (k + 1) rr)) (sym (drop_behind p (patterns_of cs) q told e)) in
    ap (λ (l : List (ℕ × Taking)). l ++ sessions_left ss rr (k + 1) q told) (sym (append-nil (map (placed told) more)) ∙ added told long)
    ∙ append_assoc (map (placed told) spots) (left_in (k + 1) cs rs 0 p told) (sessions_left ss rr (k + 1) q told)
    ∙ ap (λ (l : List (ℕ × Taking)). map (placed told) spots ++ l) (sym here)
    ∙ so_far told long

no_more : (told : List (Option Matches)) (k : ℕ) (ss : List (List Command)) → all_takings told k ss [] ≡ []
no_more told k [] = refl
no_more told k (cs ∷ ss) = refl

pub sessions_end : (all : ℕ) (ss : List (List Command)) (rr : List (List Reply)) (k p : ℕ) (spots : List Spot) (total : List (Option Matches) → List (ℕ × Taking)) → min (length ss) (length rr) ≤ k
    → AreSame all (gathered spots (sessions_left ss rr k p)) total → AreSame all (λ told. map (placed told) spots) total
sessions_end all ss rr k p spots total over so_far told long =
    let none_left : sessions_left ss rr k p told ≡ [] = elim (cases_lt k (length ss)) [
      | inl under ↦ ap (λ l. all_takings (drop p told) (k + 1) (drop k ss) l) (drop_all k rr (omega (arith, over, under))) ∙ no_more (drop p told) (k + 1) (drop k ss)
      | inr past ↦ ap (λ l. all_takings (drop p told) (k + 1) l (drop k rr)) (drop_all k ss past)
    ] in
    sym (append-nil (map (placed told) spots)) ∙ ap (λ (l : List (ℕ × Taking)). map (placed told) spots ++ l) (sym none_left) ∙ so_far told long

-- a stage, one reply more
last-append : (ns : List ℕ) (n : ℕ) → last_number (ns ++ n ∷ []) ≡ n
last-append [] n = refl
last-append (m ∷ []) n = refl
last-append (m ∷ l ∷ ns) n = last-append (l ∷ ns) n

pub stage_kept : (rs : List Reply) (i : ℕ) (r : Reply) (s : Stage) → i < length rs → r ≡ get_or rs i r → None ≡ number_of r → IsStage rs i s → IsStage rs (i + 1) s
stage_kept rs i r s h is number at = record {
  last = at.last ∙ ap last_number (sym (numbers_more rs i r h is ∙ ap (λ (o : Option ℕ). numbers (take i rs) ++ with_number o []) (sym number) ∙ append-nil (numbers (take i rs))));
  next = at.next ∙ ap first_number (numbers_from rs i r h is ∙ ap (λ (o : Option ℕ). with_number o (numbers (drop (i + 1) rs))) (sym number));
}

pub stage_last : (rs : List Reply) (i n : ℕ) (r : Reply) → i < length rs → r ≡ get_or rs i r → Some n ≡ number_of r → n ≡ last_number (numbers (take (i + 1) rs))
stage_last rs i n r h is number = sym (ap last_number (numbers_more rs i r h is ∙ ap (λ (o : Option ℕ). numbers (take i rs) ++ with_number o []) (sym number)) ∙ last-append (numbers (take i rs)) n)

-- the next number behind a reply that has none
pub next_behind : (rs : List Reply) (i : ℕ) (r : Reply) (o : Option ℕ) → i < length rs → r ≡ get_or rs i r → None ≡ number_of r → o ≡ first_number (numbers (drop i rs)) → o ≡ first_number (numbers (drop (i + 1) rs))
next_behind rs i r o h is number at = at ∙ ap first_number (numbers_from rs i r h is ∙ ap (λ (x : Option ℕ). with_number x (numbers (drop (i + 1) rs))) (sym number))

pub next_here : (rs : List Reply) (i n : ℕ) (r : Reply) → i < length rs → r ≡ get_or rs i r → Some n ≡ number_of r → Some n ≡ first_number (numbers (drop i rs))
next_here rs i n r h is number = sym (ap first_number (numbers_from rs i r h is ∙ ap (λ (x : Option ℕ). with_number x (numbers (drop (i + 1) rs))) (sym number)))

pub next_over : (rs : List Reply) (i : ℕ) → length rs ≤ i → None ≡ first_number (numbers (drop i rs))
next_over rs i over = sym (ap (λ (l : List Reply). first_number (numbers l)) (drop_all i rs over))

-- no list is longer than all of them together
pub sum_at : {X : Type 0} (xss : List (List X)) (i : ℕ) (xs : List X) → i < length xss → xs ≡ get_or xss i xs → length xs ≤ sum (map length xss)
sum_at [] i xs h is = absurd (omega (arith, h))
sum_at (ys ∷ xss) zero xs h is = omega (arith, ap length is, sum_by-cons (λ (n : ℕ). n) (length ys) (map length xss))
sum_at (ys ∷ xss) (suc i) xs h is = omega (arith, sum_at xss i xs (omega (arith, h)) is, sum_by-cons (λ (n : ℕ). n) (length ys) (map length xss))
