-- The history of a shared buffer as one of the plain machine's callers: desk n is caller n + 1, and only numbered calls are
-- events.
use Rattle.std.proofs.Common.{◌≡◌, ℕ, ◌+◌, ◌<◌, ◌≤◌, List, [], ◌∷◌, ◌++◌, map, Bool, true, false, cond, ◌&&◌, eqb, nat_lt, Option, Some, None, refl, sym, ◌∙◌, ap, subst, arith, eq-eqb, append_assoc}
use Rattle.std.specs.Prelude.{◌==◌}
use Rattle.std.specs.List.{AllByRecursion}
use Rattle.std.proofs.lemmas.Bool.{eqb-true, ne_eqb, false≢true}
use Rattle.points.specs.declared.limits.TheConstants.{LAST}
use Rattle.machine.specs.declared.command.Command.{Command}
use Rattle.machine.specs.declared.reply.Reply.{Reply}
use Rattle.machine.specs.Machine.{State, Call, step}
use Rattle.machine.specs.Answers.{call_of, number_of, reply_of}
use Rattle.machine.specs.Lawful as lawful
use Rattle.machine.specs.Lawful.{with_entry, session_entries}
use Rattle.machine.specs.Histories as plain
use Rattle.machine.specs.Histories.{own_first, own, numbered_from, after_events, IsSession}
use Rattle.machine.specs.Plain as string
use Rattle.machine.specs.Plain.{after_call, plain_reply}
use Rattle.machine.proofs.StepLemmas.{step_counts}
use Rattle.machine.proofs.Forms.{number_of_reply}
use Rattle.turn_table.specs.Meaning.{names, MayFollow}
use Rattle.turn_table.specs.History.{state_after, calls_under, AreCalled, IsLegal}
use Rattle.shared_buffer.specs.Entries.{Shared, Entry, called, handed, given_back, taken, finished, squashed, shaped, after, is_numbered, said, meaning, Meets}
use Rattle.shared_buffer.specs.Tokens.{Line}
use Rattle.sessions.specs.Gathered.{with_told, written, with_called, calls_answered, told_of}

-- the desk's number as a caller's
abbrev pub caller_of : Option ℕ → ℕ
caller_of None = 0
caller_of (Some n) = n + 1

abbrev event_with : Option ℕ → State → Option Call → List plain.Event
event_with by s None = []
event_with by s (Some call) = plain.called (caller_of by) call (step s call).1 ∷ []

abbrev event_told : Option ℕ → State → Entry → List plain.Event
event_told by s (called c None) = []
event_told by s (called c (Some r)) = event_with by s (call_of c)
event_told by s (handed n) = []
event_told by s (given_back n) = []
event_told by s (taken text version) = []
event_told by s (finished text count) = []
event_told by s (squashed depth) = []
event_told by s (shaped sizes) = []

abbrev pub events : Shared → List Line → List plain.Event
events x [] = []
events x (e ∷ es) = event_told e.by x.plain e.told ++ events (after x e.told) es

-- the plain machine's state, with no hand out
abbrev pub at : State → plain.Shared
at s = record { plain = s; hands = 0 }

-- the states are the same
after_with : (by : Option ℕ) (s : State) (o : Option Call) (rest : List plain.Event) → after_events (at s) (event_with by s o ++ rest) ≡ after_events (at (after_call s o)) rest
after_with by s None rest = refl
after_with by s (Some call) rest = refl

after_told : (by : Option ℕ) (x : Shared) (t : Entry) (rest : List plain.Event) → after_events (at x.plain) (event_told by x.plain t ++ rest) ≡ after_events (at (after x t).plain) rest
after_told by x (called c None) rest = refl
after_told by x (called c (Some r)) rest = after_with by x.plain (call_of c) rest
after_told by x (handed None) rest = refl
after_told by x (handed (Some n)) rest = refl
after_told by x (given_back n) rest = refl
after_told by x (taken text version) rest = refl
after_told by x (finished text count) rest = refl
after_told by x (squashed depth) rest = refl
after_told by x (shaped sizes) rest = refl

pub after-events : (v : ℕ) (x : Shared) (es : List Line) → after_events (at x.plain) (events x es) ≡ at (state_after (meaning v) x es).plain
after-events v x [] = refl
after-events v x (e ∷ es) = after_told e.by x e.told (events (after x e.told) es) ∙ after-events v (after x e.told) es

-- each event is right
legal_with : (by : Option ℕ) (s : State) (o : Option Call) (rest : List plain.Event) → plain.IsLegal (at (after_call s o)) rest → plain.IsLegal (at s) (event_with by s o ++ rest)
legal_with by s None rest legal = legal
legal_with by s (Some call) rest legal = (refl, legal)

legal_told : (by : Option ℕ) (x : Shared) (t : Entry) (rest : List plain.Event) → plain.IsLegal (at (after x t).plain) rest → plain.IsLegal (at x.plain) (event_told by x.plain t ++ rest)
legal_told by x (called c None) rest legal = legal
legal_told by x (called c (Some r)) rest legal = legal_with by x.plain (call_of c) rest legal
legal_told by x (handed None) rest legal = legal
legal_told by x (handed (Some n)) rest legal = legal
legal_told by x (given_back n) rest legal = legal
legal_told by x (taken text version) rest legal = legal
legal_told by x (finished text count) rest legal = legal
legal_told by x (squashed depth) rest legal = legal
legal_told by x (shaped sizes) rest legal = legal

pub legal_events : (x : Shared) (es : List Line) → plain.IsLegal (at x.plain) (events x es)
legal_events x [] = tt
legal_events x (e ∷ es) = legal_told e.by x e.told (events (after x e.told) es) (legal_events (after x e.told) es)

-- a beginning of a history has a beginning of its events
pub events-append : (v : ℕ) (x : Shared) (es fs : List Line) → events x (es ++ fs) ≡ events x es ++ events (state_after (meaning v) x es) fs
events-append v x [] fs = refl
events-append v x (e ∷ es) fs =
    ap (λ rest. event_told e.by x.plain e.told ++ rest) (events-append v (after x e.told) es fs)
    ∙ sym (append_assoc (event_told e.by x.plain e.told) (events (after x e.told) es) (events (state_after (meaning v) x (e ∷ es)) fs))

pub legal_front : (v : ℕ) (x : Shared) (es fs : List Line) → IsLegal (meaning v) (MayFollow (meaning v) Meets) x (es ++ fs) → IsLegal (meaning v) (MayFollow (meaning v) Meets) x es
legal_front v x [] fs legal = tt
legal_front v x (e ∷ es) fs legal = (legal.0, legal_front v (after x e.told) es fs legal.1)

-- ---- the calls of one desk

same_number : (m k : ℕ) (b : Bool) → eqb m k ≡ b → eqb (m + 1) (k + 1) ≡ b
same_number m k true is = eq-eqb (m + 1) (k + 1) (ap (λ n. n + 1) (eqb-true m k is))
same_number m k false is = ne_eqb (m + 1) (k + 1) (λ e. absurd (false≢true (sym is ∙ eq-eqb m k (omega (arith, e)))))

same_caller : (by : Option ℕ) (k : ℕ) → (caller_of by == k + 1) ≡ names by k
same_caller None k = ne_eqb 0 (k + 1) (λ e. omega (arith, e))
same_caller (Some m) k = same_number m k (eqb m k) refl

entry_is : (o : Option Call) (m : Option ℕ) (r q : Reply) (call : Call) (n : ℕ) (ys : List lawful.Entry) → o ≡ Some call → m ≡ Some n → r ≡ q → with_entry o m r ys ≡ record { call = call; at = n; reply = q } ∷ ys
entry_is o m r q call n ys one two three = rw (one, two, three) refl

reply_is : (v : ℕ) (s : State) (other : Reply) (o : Option Call) (call : Call) (n : ℕ) → o ≡ Some call → s.count ≡ n → string.said v s other o ≡ reply_of v (n + 1) (step s call).1
reply_is v s other o call n is count = rw (is, sym count) refl

picked : (b : Bool) (e : lawful.Entry) (l : Line) (xs : List lawful.Entry) (ls : List Line) → with_told l.told (written ls) ≡ e ∷ written ls → xs ≡ written ls → own_first b e xs ≡ written (cond b (l ∷ ls) ls)
picked true e l xs ls head tail = ap (λ ys. e ∷ ys) tail ∙ sym head
picked false e l xs ls head tail = tail

skipped : (b : Bool) (l : Line) (ls : List Line) → with_told l.told (written ls) ≡ written ls → written ls ≡ written (cond b (l ∷ ls) ls)
skipped true l ls head = sym head
skipped false l ls head = refl

module _ (v k : ℕ) where
  own_with : (by : Option ℕ) (s : State) (c : Command) (r : Reply) (n : ℕ) (o : Option Call) (rest : List plain.Event) (ls : List Line) → call_of c ≡ o → s.count ≡ n → r ≡ plain_reply v s [] [] c
      → ((m : ℕ) → (after_call s o).count ≡ m → own (k + 1) (numbered_from v m rest) ≡ written ls)
      → own (k + 1) (numbered_from v n (event_with by s o ++ rest)) ≡ written (cond (names by k) (record { by = by; told = called c (Some r) } ∷ ls) ls)
  own_with by s c r n None rest ls is count right later =
      later n count ∙ skipped (names by k) (record { by = by; told = called c (Some r) }) ls (ap (λ z. with_entry z (number_of r) r (written ls)) is)
  own_with by s c r n (Some call) rest ls is count right later =
      let q : Reply = reply_of v (n + 1) (step s call).1 in
      let told : r ≡ q = right ∙ reply_is v s (string.unnumbered s [] [] c) (call_of c) call n is count in
      let number : number_of r ≡ Some (n + 1) = ap number_of told ∙ number_of_reply v (n + 1) (step s call).1 in
      let e : lawful.Entry = record { call = call; at = n + 1; reply = q } in
      ap (λ b. own_first b e (own (k + 1) (numbered_from v (n + 1) rest))) (same_caller by k)
      ∙ picked (names by k) e (record { by = by; told = called c (Some r) }) _ ls (entry_is (call_of c) (number_of r) r q call (n + 1) (written ls) is number told) (later (n + 1) (omega (arith, step_counts s call, count)))

  right_reply : (b : Bool) (a r : Reply) → Some r ≡ cond b (Some a) None → r ≡ a
  right_reply true a r e = cc
  right_reply false a r e = absurd cc

  own_told : (by : Option ℕ) (x : Shared) (t : Entry) (n : ℕ) (rest : List plain.Event) (ls : List Line) → x.plain.count ≡ n → MayFollow (meaning v) Meets x t
      → ((m : ℕ) → (after x t).plain.count ≡ m → own (k + 1) (numbered_from v m rest) ≡ written ls)
      → own (k + 1) (numbered_from v n (event_told by x.plain t ++ rest)) ≡ written (cond (is_numbered t && names by k) (record { by = by; told = t } ∷ ls) ls)
  own_told by x (called c None) n rest ls count may later = later n count
  own_told by x (called c (Some r)) n rest ls count may later =
      let same : called c (Some r) ≡ called c (said v x.plain c) = may in
      let reply : Some r ≡ said v x.plain c = cc (same) in
      own_with by x.plain c r n (call_of c) rest ls refl count (right_reply (nat_lt x.plain.count LAST) (plain_reply v x.plain [] [] c) r reply) later
  own_told by x (handed None) n rest ls count may later = later n count
  own_told by x (handed (Some i)) n rest ls count may later = later n count
  own_told by x (given_back i) n rest ls count may later = later n count
  own_told by x (taken text version) n rest ls count may later = later n count
  own_told by x (finished text number) n rest ls count may later = later n count
  own_told by x (squashed depth) n rest ls count may later = later n count
  own_told by x (shaped sizes) n rest ls count may later = later n count

  pub own_events : (n : ℕ) (x : Shared) (es : List Line) → x.plain.count ≡ n → IsLegal (meaning v) (MayFollow (meaning v) Meets) x es → own (k + 1) (numbered_from v n (events x es)) ≡ written (calls_under (meaning v) k es)
  own_events n x [] count legal = refl
  own_events n x (e ∷ es) count legal = own_told e.by x e.told n (events (after x e.told) es) (calls_under (meaning v) k es) count legal.0 (λ m same. own_events m (after x e.told) es same legal.1)

-- ---- the callers

module _ (v desks : ℕ) where
  session_of : (by : Option ℕ) (k : ℕ) → by ≡ Some k → k < desks → (0 < caller_of by) × (caller_of by ≤ desks)
  session_of by k is below = subst (λ b. (0 < caller_of b) × (caller_of b ≤ desks)) (sym is) (omega arith, omega (arith, below))

  callers_with : (by : Option ℕ) (s : State) (n : ℕ) (o : Option Call) (rest : List plain.Event) → (k : ℕ) × (by ≡ Some k) × (k < desks) → ((m : ℕ) → AllByRecursion (IsSession desks) (numbered_from v m rest))
      → AllByRecursion (IsSession desks) (numbered_from v n (event_with by s o ++ rest))
  callers_with by s n None rest caller later = later n
  callers_with by s n (Some call) rest caller later = (session_of by caller.0 caller.1 caller.2, later (n + 1))

  callers_told : (by : Option ℕ) (s : State) (t : Entry) (n : ℕ) (rest : List plain.Event) → (is_numbered t ≡ true → (k : ℕ) × (by ≡ Some k) × (k < desks)) → ((m : ℕ) → AllByRecursion (IsSession desks) (numbered_from v m rest))
      → AllByRecursion (IsSession desks) (numbered_from v n (event_told by s t ++ rest))
  callers_told by s (called c None) n rest caller later = later n
  callers_told by s (called c (Some r)) n rest caller later = callers_with by s n (call_of c) rest (caller refl) later
  callers_told by s (handed i) n rest caller later = later n
  callers_told by s (given_back i) n rest caller later = later n
  callers_told by s (taken text version) n rest caller later = later n
  callers_told by s (finished text number) n rest caller later = later n
  callers_told by s (squashed depth) n rest caller later = later n
  callers_told by s (shaped sizes) n rest caller later = later n

  pub callers_events : (n : ℕ) (x : Shared) (es : List Line) → AreCalled (meaning v) desks es → AllByRecursion (IsSession desks) (numbered_from v n (events x es))
  callers_events n x [] callers = tt
  callers_events n x (e ∷ es) callers = callers_told e.by x.plain e.told n (events (after x e.told) es) callers.0 (λ m. callers_events m (after x e.told) es callers.1)

-- ---- the calls of a desk, as those of a session

abbrev entries_told : List Entry → List lawful.Entry
entries_told [] = []
entries_told (t ∷ ts) = with_told t (entries_told ts)

written_told : (es : List Line) → written es ≡ entries_told (map told_of es)
written_told [] = refl
written_told (e ∷ es) = ap (with_told e.told) (written_told es)

answered_with : (o : Option Call) (c : Command) (r : Reply) (ts : List Entry) (es : List lawful.Entry) → call_of c ≡ o → entries_told ts ≡ es → entries_told (with_called o c r ts) ≡ with_entry o (number_of r) r es
answered_with None c r ts es is same = same
answered_with (Some call) c r ts es is same = rw (is, same) refl

answered : (cs : List Command) (rs : List Reply) → entries_told (calls_answered cs rs) ≡ session_entries cs rs
answered [] rs = refl
answered (c ∷ cs) [] = refl
answered (c ∷ cs) (r ∷ rs) = answered_with (call_of c) c r (calls_answered cs rs) (session_entries cs rs) refl (answered cs rs)

pub session_written : (es : List Line) (cs : List Command) (rs : List Reply) → map told_of es ≡ calls_answered cs rs → session_entries cs rs ≡ written es
session_written es cs rs same = sym (written_told es ∙ ap entries_told same ∙ answered cs rs)
