-- Many sessions: a transcript that writes a legal history down is lawful. The sessions' entries are those of the history in
-- another order, so each number finds the same call, and each take shows the state behind its front.
use Rattle.std.proofs.Common.{◌≡◌, ℕ, zero, suc, ◌+◌, ◌<◌, ◌≤◌, List, [], ◌∷◌, ◌++◌, length, map, drop, get_or, Bool, true, false, cond, eqb, Option, Some, None, refl, sym, eq-eqb, ◌∙◌, ap, subst, arith, zero-add, append-nil, inl, inr, ◌⊎◌}
use Rattle.std.specs.Prelude.{find, count_by, ◌==◌}
use Rattle.std.specs.List.Sorted.{IsStrictlyIncreasing}
use Rattle.std.specs.List.{AllByRecursion}
use Rattle.points.specs.Text.{text_of}
use Rattle.std.proofs.lemmas.Bool.{eqb-true, ne_eqb, cases_lt, and_parts, false≢true}
use Rattle.std.proofs.lemmas.List.Sums.{sum_by-cons, sum_by-append}
use Rattle.std.proofs.lemmas.List.{append_assoc}
use Rattle.machine.specs.declared.command.Command.{Command}
use Rattle.machine.specs.declared.command.Command.TheVariants as command
use Rattle.machine.specs.declared.reply.Reply.{Reply}
use Rattle.machine.specs.declared.reply.Reply.TheVariants as reply
use Rattle.machine.specs.Machine.{State, opened, Call, Answer, step, after}
use Rattle.machine.specs.Answers.{reply_of, number_of, Matches}
use Rattle.machine.specs.Lawful.{have_forms, sessions_have_forms, Entry, entries, with_number, numbers, has_number, state_after, IsAsked, Taking, with_taking, takings, all_takings, patterns_in, patterns_of, last_number, IsChange, IsTakingLawful}
use Rattle.machine.specs.Histories.{number_in, Shared, Event, called, hand, hand_back, after_event, IsLegal, after_events, opened_shared, numbered_from, own_first, own, AreOwn, IsSession, HasFront}
use Rattle.machine.specs.Laws.{HistoryIsLawful}
use Rattle.machine.proofs.StepLemmas.{step_counts}
use Rattle.machine.proofs.History.{HasEntry, has_entry, history, entry_of, length-history, once_each, Finds, state_after-finds, calls_agree-finds, after_counts, Stands, stands_at_start, stands_on}
use Rattle.machine.proofs.OneSession.{all-append, all-map, take-all}
use Rattle.machine.proofs.OnlyPlain.{all-left, all-right, unmapped}
use Rattle.machine.proofs.Sides.{numbers-entries}

abbrev entry_in : ℕ × Entry → Entry
entry_in x = x.1

-- the calls of a history
abbrev calls_in : List Event → List Call
calls_in [] = []
calls_in (called caller call answer ∷ es) = call ∷ calls_in es
calls_in (hand caller given ∷ es) = calls_in es
calls_in (hand_back caller ∷ es) = calls_in es

-- the entries of a legal history are those of its calls in turn
same_entry : (version n : ℕ) (s : State) (call : Call) (answer : Answer) (xs ys : List Entry) → s.count ≡ n → answer ≡ (step s call).1 → xs ≡ ys
    → record { call = call; at = n + 1; reply = reply_of version (n + 1) answer } ∷ xs ≡ entry_of version s call ∷ ys
same_entry version n s call answer xs ys count right same = rw (same, right, sym count) refl

numbered-history : (version n : ℕ) (s : Shared) (es : List Event) → s.plain.count ≡ n → IsLegal s es → map entry_in (numbered_from version n es) ≡ history version s.plain (calls_in es)
numbered-history version n s [] count legal = refl
numbered-history version n s (called caller call answer ∷ es) count legal =
    same_entry version n s.plain call answer _ _ count legal.0 (numbered-history version (n + 1) (after_event s (called caller call answer)) es (omega (arith, step_counts s.plain call, count)) legal.1)
numbered-history version n s (hand caller given ∷ es) count legal = numbered-history version n (after_event s (hand caller given)) es count legal.1
numbered-history version n s (hand_back caller ∷ es) count legal = numbered-history version n (after_event s (hand_back caller)) es count legal.1

after-history : (s : Shared) (es : List Event) → (after_events s es).plain ≡ after s.plain (calls_in es)
after-history s [] = refl
after-history s (called caller call answer ∷ es) = after-history (after_event s (called caller call answer)) es
after-history s (hand caller given ∷ es) = after-history (after_event s (hand caller given)) es
after-history s (hand_back caller ∷ es) = after-history (after_event s (hand_back caller)) es

-- the calls of n callers from caller k on, one caller after the other
gather : List (ℕ × Entry) → ℕ → ℕ → List Entry
gather xs k zero = []
gather xs k (suc n) = own k xs ++ gather xs (k + 1) n

entries-gather : (version : ℕ) (xs : List (ℕ × Entry)) (k : ℕ) (sessions : List (List Command)) (replies : List (List Reply)) → sessions_have_forms version sessions replies ≡ true → AreOwn xs k sessions replies → entries sessions replies ≡ gather xs k (length sessions)
unfolding gather
entries-gather version xs k [] [] forms owned = refl
entries-gather version xs k [] (rs ∷ rest) forms owned = refl
entries-gather version xs k (cs ∷ others) [] forms owned = absurd (false≢true forms)
entries-gather version xs k (cs ∷ others) (rs ∷ rest) forms owned =
    rw (owned.0, entries-gather version xs (k + 1) others rest (and_parts (have_forms version cs rs) (sessions_have_forms version others rest) forms).1 owned.1) refl

-- what holds of all calls holds of those of each caller
own_all_by : (P : Entry → Type 0) (b : Bool) (e : Entry) (es : List Entry) → P e → AllByRecursion P es → AllByRecursion P (own_first b e es)
own_all_by P true e es p q = (p, q)
own_all_by P false e es p q = q

own_all : (P : Entry → Type 0) (k : ℕ) (xs : List (ℕ × Entry)) → AllByRecursion P (map entry_in xs) → AllByRecursion P (own k xs)
own_all P k [] p = tt
own_all P k (x ∷ xs) p = own_all_by P (x.0 == k) x.1 (own k xs) p.0 (own_all P k xs p.1)

gather_all : (P : Entry → Type 0) (xs : List (ℕ × Entry)) (k n : ℕ) → AllByRecursion P (map entry_in xs) → AllByRecursion P (gather xs k n)
unfolding gather
gather_all P xs k zero p = tt
gather_all P xs k (suc n) p = all-append P (own k xs) (gather xs (k + 1) n) (own_all P k xs p) (gather_all P xs (k + 1) n p)

-- one call more: it is counted with its caller alone
gather_none : (k n : ℕ) → gather [] k n ≡ []
unfolding gather
gather_none k zero = refl
gather_none k (suc n) = gather_none (k + 1) n

gather_other : (x : ℕ × Entry) (xs : List (ℕ × Entry)) (k n : ℕ) → x.0 < k → gather (x ∷ xs) k n ≡ gather xs k n
unfolding gather
gather_other x xs k zero h = refl
gather_other x xs k (suc n) h =
    let apart : eqb x.0 k ≡ false = ne_eqb _ _ (λ e. omega (arith, e, h)) in
    rw (apart, gather_other x xs (k + 1) n (omega (arith, h))) refl

abbrev one : (Entry → Bool) → Entry → ℕ
one p e = cond (p e) 1 0

gather_by : (p : Entry → Bool) (x : ℕ × Entry) (xs : List (ℕ × Entry)) (k n : ℕ) (b : Bool) → eqb x.0 k ≡ b → k ≤ x.0
    → (k + 1 ≤ x.0 → count_by p (gather (x ∷ xs) (k + 1) n) ≡ one p x.1 + count_by p (gather xs (k + 1) n))
    → count_by p (own_first b x.1 (own k xs) ++ gather (x ∷ xs) (k + 1) n) ≡ one p x.1 + count_by p (own k xs ++ gather xs (k + 1) n)
gather_by p x xs k n true is low later =
    let here : x.0 ≡ k = eqb-true x.0 k is in
    let same : gather (x ∷ xs) (k + 1) n ≡ gather xs (k + 1) n = gather_other x xs (k + 1) n (omega (arith, here)) in
    rw same (sum_by-cons (one p) x.1 (own k xs ++ gather xs (k + 1) n))
gather_by p x xs k n false is low later = elim (cases_lt k x.0) [
  | inl above ↦
      let split : count_by p (own k xs ++ gather (x ∷ xs) (k + 1) n) ≡ count_by p (own k xs) + count_by p (gather (x ∷ xs) (k + 1) n) = sum_by-append (one p) (own k xs) (gather (x ∷ xs) (k + 1) n) in
      let joined : count_by p (own k xs ++ gather xs (k + 1) n) ≡ count_by p (own k xs) + count_by p (gather xs (k + 1) n) = sum_by-append (one p) (own k xs) (gather xs (k + 1) n) in
      omega (arith, split, joined, later (omega (arith, above)))
  | inr under ↦ let bad : eqb x.0 k ≡ true = eq-eqb x.0 k (omega (arith, under, low)) in absurd (false≢true (sym is ∙ bad))
]

gather_one : (p : Entry → Bool) (x : ℕ × Entry) (xs : List (ℕ × Entry)) (k n : ℕ) → k ≤ x.0 → x.0 < k + n → count_by p (gather (x ∷ xs) k n) ≡ one p x.1 + count_by p (gather xs k n)
unfolding gather
gather_one p x xs k zero low high = absurd (omega (arith, low, high))
gather_one p x xs k (suc n) low high = gather_by p x xs k n (eqb x.0 k) refl low (λ more. gather_one p x xs (k + 1) n more (omega (arith, high)))

gather_counts : (p : Entry → Bool) (n : ℕ) (xs : List (ℕ × Entry)) → AllByRecursion (IsSession n) xs → count_by p (gather xs 1 n) ≡ count_by p (map entry_in xs)
gather_counts p n [] callers = ap (count_by p) (gather_none 1 n)
gather_counts p n (x ∷ xs) callers =
    gather_one p x xs 1 n (omega (arith, callers.0.0)) (omega (arith, callers.0.1)) ∙ ap (λ m. one p x.1 + m) (gather_counts p n xs callers.1) ∙ sym (sum_by-cons (one p) x.1 (map entry_in xs))

count_all : (es : List Entry) → count_by (λ e. true) es ≡ length es
count_all [] = refl
count_all (e ∷ es) = sum_by-cons (λ x. 1) e es ∙ ap (λ n. 1 + n) (count_all es) ∙ omega arith

-- where one entry alone has a number, it is found
find_by : (m : ℕ) (e x : Entry) (es : List Entry) (b : Bool) → eqb x.at m ≡ b → (x.at ≡ m → x ≡ e) → find (has_number m) es ≡ Some e ⊎ (b ≡ true) → cond b (Some x) (find (has_number m) es) ≡ Some e
find_by m e x es true is only found = ap Some (only (eqb-true x.at m is))
find_by m e x es false is only (inl found) = found
find_by m e x es false is only (inr bad) = absurd (false≢true bad)

found_or : (m : ℕ) (e x : Entry) (es : List Entry) (b : Bool) → 0 < cond b 1 0 + count_by (has_number m) es → (0 < count_by (has_number m) es → find (has_number m) es ≡ Some e) → (find (has_number m) es ≡ Some e) ⊎ (b ≡ true)
found_or m e x es true some later = inr refl
found_or m e x es false some later = inl (later (omega (arith, some)))

find_only : (m : ℕ) (e : Entry) (es : List Entry) → AllByRecursion (λ x. x.at ≡ m → x ≡ e) es → 0 < count_by (has_number m) es → find (has_number m) es ≡ Some e
find_only m e [] only some = absurd (omega (arith, some))
find_only m e (x ∷ es) only some =
    find_by m e x es (eqb x.at m) refl only.0 (found_or m e x es (eqb x.at m) (subst (λ k. 0 < k) (sum_by-cons (λ y. cond (has_number m y) 1 0) x es) some) (find_only m e es only.1))

finds_gather : (version : ℕ) (opening : List ℕ) (calls : List Call) (xs : List (ℕ × Entry)) (n : ℕ) → map entry_in xs ≡ history version (opened opening) calls → AllByRecursion (IsSession n) xs → Finds version opening calls (gather xs 1 n)
finds_gather version opening calls xs n same callers m h =
    let e : HasEntry version (opened opening) calls m = has_entry version (opened opening) calls m h in
    let only : AllByRecursion (λ x. x.at ≡ suc m → x ≡ e.entry) (map entry_in xs) = subst (AllByRecursion (λ x. x.at ≡ suc m → x ≡ e.entry)) (sym same) (subst (λ i. AllByRecursion (λ x. x.at ≡ i → x ≡ e.entry) (history version (opened opening) calls)) (zero-add (suc m)) e.only) in
    let once : count_by (has_number (suc m)) (gather xs 1 n) ≡ 1 = gather_counts (has_number (suc m)) n xs callers ∙ ap (count_by (has_number (suc m))) same ∙ subst (λ i. count_by (has_number i) (history version (opened opening) calls) ≡ 1) (zero-add (suc m)) (once_each version (opened opening) calls m h) in
    find_only (suc m) e.entry (gather xs 1 n) (gather_all (λ x. x.at ≡ suc m → x ≡ e.entry) xs 1 n only) (omega (arith, once))

-- the numbers of one caller rise
Above : ℕ → List ℕ → Type 0
Above v [] = Unit {0}
Above v (n ∷ ns) = (v < n) × Above n ns

above_from : (u v : ℕ) (ns : List ℕ) → u ≤ v → Above v ns → Above u ns
unfolding Above
above_from u v [] low above = tt
above_from u v (n ∷ ns) low above = (omega (arith, low, above.0), above.1)

above_by : (b : Bool) (v n : ℕ) (e : Entry) (es : List Entry) → v ≤ n → e.at ≡ n + 1 → Above (n + 1) (map number_in es) → Above v (map number_in (own_first b e es))
unfolding Above
above_by true v n e es low at above = (omega (arith, low, at), subst (λ m. Above m (map number_in es)) (sym at) above)
above_by false v n e es low at above = above_from v (n + 1) (map number_in es) (omega (arith, low)) above

own_above : (version n v k : ℕ) (es : List Event) → v ≤ n → Above v (map number_in (own k (numbered_from version n es)))
unfolding Above
own_above version n v k [] low = tt
own_above version n v k (called caller call answer ∷ es) low = above_by (caller == k) v n _ (own k (numbered_from version (n + 1) es)) low refl (own_above version (n + 1) (n + 1) k es (omega arith))
own_above version n v k (hand caller given ∷ es) low = own_above version n v k es low
own_above version n v k (hand_back caller ∷ es) low = own_above version n v k es low

above_rises : (ns : List ℕ) (v : ℕ) → Above v ns → IsStrictlyIncreasing ns
unfolding Above
above_rises [] v above k h = absurd (omega (arith, h))
above_rises (n ∷ []) v above k h = absurd (omega (arith, h))
above_rises (n ∷ m ∷ ns) v above zero h = above.1.0
above_rises (n ∷ m ∷ ns) v above (suc k) h =
    let later : get_or (m ∷ ns) k 0 < get_or (m ∷ ns) (k + 1) 0 = above_rises (m ∷ ns) n above.1 k (omega (arith, h)) in
    let same : suc (k + 1) ≡ suc k + 1 = omega arith in
    subst (λ j. get_or (n ∷ m ∷ ns) (suc k) 0 < get_or (n ∷ m ∷ ns) j 0) same later

above_all : (v : ℕ) (ns : List ℕ) → Above v ns → AllByRecursion (λ n. v < n) ns
unfolding Above
above_all v [] above = tt
above_all v (n ∷ ns) above = (above.0, above_all v ns (above_from v n ns (omega (arith, above.0)) above.1))

-- the front of a take: where it stands, and the numbers before and behind it
record Reach (version : ℕ) (opening : List ℕ) (es : List Entry) (calls : List Call) (n : ℕ) (s : Shared) (front behind : List Event) : Type 0 where
  k : ℕ
  later : n ≤ k
  stands : Stands opening es calls k (after_events s front).plain (calls_in behind)
  split : numbered_from version n (front ++ behind) ≡ numbered_from version n front ++ numbered_from version k behind
  low : AllByRecursion (λ x. x.at ≤ k) (map entry_in (numbered_from version n front))

reach : (version : ℕ) (opening : List ℕ) (es : List Entry) (calls : List Call) → Finds version opening calls es → length es ≡ length calls → (n : ℕ) (s : Shared) (front behind : List Event) → Stands opening es calls n s.plain (calls_in (front ++ behind)) → Reach version opening es calls n s front behind
reach version opening es calls finds same n s [] behind at = record { k = n; later = omega arith; stands = at; split = refl; low = tt }
reach version opening es calls finds same n s (called caller call answer ∷ front) behind at =
    let one : suc n ≡ n + 1 = omega arith in
    let next : Stands opening es calls (n + 1) (step s.plain call).0 (calls_in (front ++ behind)) = subst (λ m. Stands opening es calls m (step s.plain call).0 (calls_in (front ++ behind))) one (stands_on version opening es calls n s.plain call (calls_in (front ++ behind)) finds same at) in
    let r : Reach version opening es calls (n + 1) (after_event s (called caller call answer)) front behind = reach version opening es calls finds same (n + 1) (after_event s (called caller call answer)) front behind next in
    record { k = r.k; later = omega (arith, r.later); stands = r.stands; split = ap (λ xs. (caller, record { call = call; at = n + 1; reply = reply_of version (n + 1) answer }) ∷ xs) r.split; low = (r.later, r.low) }
reach version opening es calls finds same n s (hand caller given ∷ front) behind at =
    let r : Reach version opening es calls n (after_event s (hand caller given)) front behind = reach version opening es calls finds same n (after_event s (hand caller given)) front behind at in
    record { k = r.k; later = r.later; stands = r.stands; split = r.split; low = r.low }
reach version opening es calls finds same n s (hand_back caller ∷ front) behind at =
    let r : Reach version opening es calls n (after_event s (hand_back caller)) front behind = reach version opening es calls finds same n (after_event s (hand_back caller)) front behind at in
    record { k = r.k; later = r.later; stands = r.stands; split = r.split; low = r.low }

own_join : (b : Bool) (e : Entry) (es fs : List Entry) → own_first b e (es ++ fs) ≡ own_first b e es ++ fs
own_join true e es fs = refl
own_join false e es fs = refl

own-append : (k : ℕ) (xs ys : List (ℕ × Entry)) → own k (xs ++ ys) ≡ own k xs ++ own k ys
own-append k [] ys = refl
own-append k (x ∷ xs) ys = ap (own_first (x.0 == k) x.1) (own-append k xs ys) ∙ own_join (x.0 == k) x.1 (own k xs) (own k ys)

map-append : (es fs : List Entry) → map number_in (es ++ fs) ≡ map number_in es ++ map number_in fs
map-append [] fs = refl
map-append (e ∷ es) fs = ap (λ ns. e.at ∷ ns) (map-append es fs)

cancel : (ns ms ks : List ℕ) → ns ++ ms ≡ ns ++ ks → ms ≡ ks
cancel [] ms ks same = same
cancel (n ∷ ns) ms ks same = let rest : ns ++ ms ≡ ns ++ ks = cc in cancel ns ms ks rest

last_low : (q : ℕ) (es : List Entry) → AllByRecursion (λ x. x.at ≤ q) es → last_number (map number_in es) ≤ q
last_low q [] low = omega arith
last_low q (e ∷ []) low = low.0
last_low q (e ∷ f ∷ es) low = last_low q (f ∷ es) low.1

-- a take with its front is lawful
front_lawful : (version : ℕ) (opening : List ℕ) (hands : ℕ) (es : List Entry) (events : List Event) (k : ℕ) (t : Taking) → Finds version opening (calls_in events) es → length es ≡ length (calls_in events)
    → t.earlier ++ t.later ≡ map number_in (own k (numbered_from version 0 events)) → HasFront version (opened_shared opening hands) events k t → IsTakingLawful (opened opening) es t
front_lawful version opening hands es events k t finds same split f =
    let start : Stands opening es (calls_in events) 0 (opened opening) (calls_in (f.front ++ f.behind)) = subst (λ x. Stands opening es (calls_in events) 0 (opened opening) (calls_in x)) f.is_front (stands_at_start opening es (calls_in events)) in
    let r : Reach version opening es (calls_in events) 0 (opened_shared opening hands) f.front f.behind = reach version opening es (calls_in events) finds same 0 (opened_shared opening hands) f.front f.behind start in
    let mine : own k (numbered_from version 0 events) ≡ own k (numbered_from version 0 f.front) ++ own k (numbered_from version r.k f.behind) = ap (λ x. own k (numbered_from version 0 x)) f.is_front ∙ ap (own k) r.split ∙ own-append k (numbered_from version 0 f.front) (numbered_from version r.k f.behind) in
    let parts : t.earlier ++ t.later ≡ t.earlier ++ map number_in (own k (numbered_from version r.k f.behind)) = split ∙ ap (map number_in) mine ∙ map-append (own k (numbered_from version 0 f.front)) (own k (numbered_from version r.k f.behind)) ∙ ap (λ ns. ns ++ map number_in (own k (numbered_from version r.k f.behind))) f.earlier in
    let later : t.later ≡ map number_in (own k (numbered_from version r.k f.behind)) = cancel t.earlier t.later _ parts in
    let before : last_number t.earlier ≤ r.k = subst (λ ns. last_number ns ≤ r.k) f.earlier (last_low r.k (own k (numbered_from version 0 f.front)) (own_all (λ x. x.at ≤ r.k) k (numbered_from version 0 f.front) r.low)) in
    let shows = r.stands.shows in
    let low : t.version ≤ r.k = omega (arith, f.shown, shows.low) in
    let text : (state_after (opened opening) es t.version).text ≡ (after_events (opened_shared opening hands) f.front).plain.text = ap (λ m. (state_after (opened opening) es m).text) f.shown ∙ shows.text in
    record {
      shown = subst (λ v. (v ≡ 0) ⊎ IsChange (opened opening) es v) (sym f.shown) shows.shown;
      fresh = λ n above below changed. shows.fresh n (omega (arith, above, f.shown)) (omega (arith, below, before)) changed;
      below = subst (AllByRecursion (λ n. t.version < n)) (sym later) (above_all t.version _ (own_above version r.k t.version k f.behind low));
      answers = subst (λ x. AllByRecursion (IsAsked x) t.asked) (sym text) f.answers;
    }

-- the numbers before and behind each take are those of its session
taking_splits : (c : Command) (r : Reply) (i : ℕ) (earlier : List ℕ) (told : List (Option Matches)) (cs : List Command) (rs : List Reply) (rest : List Taking)
    → AllByRecursion (λ t. t.earlier ++ t.later ≡ earlier ++ numbers (r ∷ rs)) rest → AllByRecursion (λ t. t.earlier ++ t.later ≡ earlier ++ numbers (r ∷ rs)) (with_taking c r i earlier told cs rs rest)
taking_splits (command.Take k) (reply.Taken v) i earlier told cs rs rest splits = (refl, splits)
taking_splits _ _ i earlier told cs rs rest splits = splits

number_on : (m : Option ℕ) (earlier ns : List ℕ) → (earlier ++ with_number m []) ++ ns ≡ earlier ++ with_number m ns
number_on None earlier ns = ap (λ xs. xs ++ ns) (append-nil earlier)
number_on (Some n) earlier ns = append_assoc earlier (n ∷ []) ns

takings_split : (told : List (Option Matches)) (i : ℕ) (earlier : List ℕ) (cs : List Command) (rs : List Reply) → AllByRecursion (λ t. t.earlier ++ t.later ≡ earlier ++ numbers rs) (takings told i earlier cs rs)
takings_split told i earlier [] rs = tt
takings_split told i earlier (c ∷ cs) [] = tt
takings_split told i earlier (c ∷ cs) (r ∷ rs) =
    taking_splits c r i earlier (drop (patterns_in c) told) cs rs (takings (drop (patterns_in c) told) (i + 1) (earlier ++ with_number (number_of r) []) cs rs)
    (subst (λ ns. AllByRecursion (λ t. t.earlier ++ t.later ≡ ns) (takings (drop (patterns_in c) told) (i + 1) (earlier ++ with_number (number_of r) []) cs rs)) (number_on (number_of r) earlier (numbers rs))
    (takings_split (drop (patterns_in c) told) (i + 1) (earlier ++ with_number (number_of r) []) cs rs))

both_all : {X : Type 0} (P Q R : X → Type 0) (xs : List X) → ((x : X) → P x → Q x → R x) → AllByRecursion P xs → AllByRecursion Q xs → AllByRecursion R xs
both_all P Q R [] f p q = tt
both_all P Q R (x ∷ xs) f p q = (f x p.0 q.0, both_all P Q R xs f p.1 q.1)

fronts_lawful : (version : ℕ) (opening : List ℕ) (hands : ℕ) (es : List Entry) (events : List Event) → Finds version opening (calls_in events) es → length es ≡ length (calls_in events) → (told : List (Option Matches)) (k : ℕ) (sessions : List (List Command)) (replies : List (List Reply))
    → sessions_have_forms version sessions replies ≡ true → AreOwn (numbered_from version 0 events) k sessions replies → AllByRecursion (λ x. HasFront version (opened_shared opening hands) events x.0 x.1) (all_takings told k sessions replies)
    → AllByRecursion (λ x. IsTakingLawful (opened opening) es x.1) (all_takings told k sessions replies)
fronts_lawful version opening hands es events finds same told k [] rest forms owned fronts = tt
fronts_lawful version opening hands es events finds same told k (cs ∷ others) [] forms owned fronts = tt
fronts_lawful version opening hands es events finds same told k (cs ∷ others) (rs ∷ rest) forms owned fronts =
    let formed = and_parts (have_forms version cs rs) (sessions_have_forms version others rest) forms in
    let mine : numbers rs ≡ map number_in (own k (numbered_from version 0 events)) = numbers-entries version cs rs formed.0 ∙ ap (map number_in) owned.0 in
    let first : AllByRecursion (λ x. HasFront version (opened_shared opening hands) events x.0 x.1) (map (λ t. (k, t)) (takings told 1 [] cs rs)) = all-left _ (map (λ t. (k, t)) (takings told 1 [] cs rs)) (all_takings (drop (patterns_of cs) told) (k + 1) others rest) fronts in
    let here : AllByRecursion (λ t. HasFront version (opened_shared opening hands) events k t) (takings told 1 [] cs rs) = unmapped (λ (x : ℕ × Taking). HasFront version (opened_shared opening hands) events x.0 x.1) (λ t. (k, t)) (takings told 1 [] cs rs) first in
    all-append (λ (x : ℕ × Taking). IsTakingLawful (opened opening) es x.1) (map (λ t. (k, t)) (takings told 1 [] cs rs)) (all_takings (drop (patterns_of cs) told) (k + 1) others rest)
    (all-map (λ (x : ℕ × Taking). IsTakingLawful (opened opening) es x.1) (λ t. (k, t)) (takings told 1 [] cs rs)
    (both_all (λ t. HasFront version (opened_shared opening hands) events k t) (λ t. t.earlier ++ t.later ≡ numbers rs) (λ t. IsTakingLawful (opened opening) es t) (takings told 1 [] cs rs)
    (λ t f split. front_lawful version opening hands es events k t finds same (split ∙ mine) f) here (takings_split told 1 [] cs rs)))
    (fronts_lawful version opening hands es events finds same (drop (patterns_of cs) told) (k + 1) others rest formed.1 owned.1 (all-right _ (map (λ t. (k, t)) (takings told 1 [] cs rs)) _ fronts))

-- the numbers of each session rise
sessions_rise : (version : ℕ) (events : List Event) (k : ℕ) (sessions : List (List Command)) (replies : List (List Reply)) → sessions_have_forms version sessions replies ≡ true → AreOwn (numbered_from version 0 events) k sessions replies
    → AllByRecursion (λ rs. IsStrictlyIncreasing (numbers rs)) replies
sessions_rise version events k [] [] forms owned = tt
sessions_rise version events k [] (rs ∷ rest) forms owned = absurd (false≢true forms)
sessions_rise version events k (cs ∷ others) [] forms owned = tt
sessions_rise version events k (cs ∷ others) (rs ∷ rest) forms owned =
    let formed = and_parts (have_forms version cs rs) (sessions_have_forms version others rest) forms in
    let mine : numbers rs ≡ map number_in (own k (numbered_from version 0 events)) = numbers-entries version cs rs formed.0 ∙ ap (map number_in) owned.0 in
    (subst IsStrictlyIncreasing (sym mine) (above_rises _ 0 (own_above version 0 0 k events (omega arith))), sessions_rise version events (k + 1) others rest formed.1 owned.1)

-- a transcript that writes a legal history down is lawful
pub history_is_lawful : HistoryIsLawful
history_is_lawful script opening hands told events t w =
    let xs : List (ℕ × Entry) = numbered_from script.version 0 events in
    let calls : List Call = calls_in events in
    let all : List Entry = entries script.sessions t.sessions in
    let n : ℕ = length script.sessions in
    let listed : map entry_in xs ≡ history script.version (opened opening) calls = numbered-history script.version 0 (opened_shared opening hands) events refl w.legal in
    let gathered : all ≡ gather xs 1 n = entries-gather script.version xs 1 script.sessions t.sessions w.forms w.owned in
    let finds : Finds script.version opening calls all = subst (Finds script.version opening calls) (sym gathered) (finds_gather script.version opening calls xs n listed w.callers) in
    let counts : (p : Entry → Bool) → count_by p all ≡ count_by p (history script.version (opened opening) calls) = λ p. ap (count_by p) gathered ∙ gather_counts p n xs w.callers ∙ ap (count_by p) listed in
    let same : length all ≡ length calls = sym (count_all all) ∙ counts (λ e. true) ∙ count_all (history script.version (opened opening) calls) ∙ length-history script.version (opened opening) calls in
    let last : (after_events (opened_shared opening hands) events).plain ≡ after (opened opening) calls = after-history (opened_shared opening hands) events in
    let reached : state_after (opened opening) all (length all) ≡ after (opened opening) calls =
    ap (state_after (opened opening) all) same ∙ state_after-finds script.version opening calls all finds (length calls) (omega arith) ∙ ap (after (opened opening)) (take-all calls) in
    record {
      form = record {
        version = w.version;
        forms = w.forms;
        once = λ m h. counts (has_number (m + 1)) ∙ subst (λ i. count_by (has_number i) (history script.version (opened opening) calls) ≡ 1) (omega arith) (once_each script.version (opened opening) calls m (omega (arith, h, same)));
        rising = sessions_rise script.version events 1 script.sessions t.sessions w.forms w.owned;
      };
      call = calls_agree-finds script.version opening calls all finds same;
      snapshot = fronts_lawful script.version opening hands all events finds same told 1 script.sessions t.sessions w.forms w.owned w.fronts;
      end = record {
        count = w.count ∙ ap (λ (x : State). x.count) last ∙ after_counts (opened opening) calls ∙ zero-add (length calls) ∙ sym same;
        text = w.text ∙ ap (λ (x : State). text_of x.text) last ∙ ap (λ (x : State). text_of x.text) (sym reached);
      };
    }
