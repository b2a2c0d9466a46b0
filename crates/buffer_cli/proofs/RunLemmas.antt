-- A run of the plain machine, command by command.
use Rattle.std.proofs.Common.{◌≡◌, ℕ, zero, suc, ◌+◌, ◌<◌, ◌≤◌, List, [], ◌∷◌, ◌++◌, length, drop, get_or, Bool, true, false, cond, Option, Some, None, refl, sym, subst, ap, ◌∙◌, arith, append_assoc, append-nil, add-one, drop-cons, zero-add}
use Rattle.std.specs.Prelude.{◌==◌, ◌||◌, ◌&&◌, not, find, is_some, option_map}
use Rattle.std.specs.List.{AllByRecursion, list_any, filter}
use Rattle.std.proofs.Math.ListN.{drop_of_length-le}
use Rattle.std.proofs.lemmas.List.{length-drop, drop_at}
use Rattle.std.proofs.lemmas.List.Sums.{sum_by-cons}
use Rattle.std.proofs.lemmas.Bool.{false≢true}
use Rattle.std.proofs.lemmas.Option.{none-some, same_Some}
use Rattle.std.proofs.lemmas.Bool.Decides.{nat_tests}
use Rattle.points.specs.Text.{text_of, IsWellFormed}
use Rattle.machine.specs.declared.command.Command.{Command}
use Rattle.machine.specs.declared.command.Command.TheVariants as command
use Rattle.machine.specs.declared.command.Script.{Script}
use Rattle.machine.specs.declared.reply.Reply.{Reply}
use Rattle.machine.specs.declared.reply.Reply.TheVariants as reply
use Rattle.machine.specs.Machine.{State, Call, after, opened}
use Rattle.machine.specs.Answers.{call_of, Matches}
use Rattle.machine.specs.Lawful.{IsLawful, patterns_in, patterns_of}
use Rattle.machine.specs.Plain.{Kept, kept_text, text_kept, after_call, kept_after, live_after, is_live, are_live, with_call, calls_of, plain_answers, plain_reply, plain_replies}
use Rattle.machine.proofs.History.{after_counts}
use Rattle.machine.proofs.OneSession.{plain_is_lawful}
use Rattle.machine.proofs.StepLemmas.{step_counts}
use Rattle.buffer.specs.Reads.{has_number, without_first}
use Rattle.buffer.specs.Sound.{IsSound}
use Rattle.script.specs.Limits.{is_watch}
use Rattle.buffer_cli.specs.Answered.{held_after, is_answered, is_held, watches_in}
use Rattle.buffer_cli.specs.Hits.{Agree, IsReply, AreReplies}
use Rattle.buffer_cli.proofs.HitLemmas.{agree-append, found_left, answers_first}
use Rattle.buffer_cli.proofs.ToldLemmas.{lawful_by}

-- what one command does to a run
record IsNext (s : State) (c : Command) (cs : List Command) : Type 0 where
  counts : (after_call s (call_of c)).count ≤ suc s.count
  later : after s (calls_of (c ∷ cs)) ≡ after (after_call s (call_of c)) (calls_of cs)

next_by : (s : State) (o : Option Call) (calls : List Call) → ((after_call s o).count ≤ suc s.count) × (after s (with_call o calls) ≡ after (after_call s o) calls)
next_by s None calls = (omega arith, refl)
next_by s (Some call) calls = (omega (arith, step_counts s call), refl)

next_of : (s : State) (c : Command) (cs : List Command) → IsNext s c cs
next_of s c cs = let by = next_by s (call_of c) (calls_of cs) in record { counts = by.0; later = by.1 }

-- what holds of each command holds of the one with index i
pub answered_at : (n : ℕ) (commands : List Command) (i : ℕ) (c : Command) → i < length commands → c ≡ get_or commands i c → AllByRecursion (λ d. is_answered n d ≡ true) commands → is_answered n c ≡ true
answered_at n [] i c within at all = absurd (omega arith)
answered_at n (d ∷ ds) zero c within at all = rw at all.0
answered_at n (d ∷ ds) (suc i) c within at all = answered_at n ds i c (omega arith) at all.1

module _ {X : Type 0} where
  pub rest_at : (xs : List X) (i : ℕ) (x : X) → i < length xs → x ≡ get_or xs i x → drop i xs ≡ x ∷ drop (i + 1) xs
  rest_at xs i x within at = rw add-one (drop-cons xs i x within ∙ ap (λ y. y ∷ drop (suc i) xs) (sym at))

  -- what holds of the next holds of all, where it holds of the rest behind it
  pub all_more : (P : X → Type 0) (xs : List X) (i : ℕ) (x : X) → i < length xs → x ≡ get_or xs i x → P x → (AllByRecursion P (drop i xs) → AllByRecursion P xs) → AllByRecursion P (drop (i + 1) xs) → AllByRecursion P xs
  all_more P xs i x within at holds more rest = more (subst (AllByRecursion P) (sym (rest_at xs i x within at)) (holds, rest))

  -- and of those that are left where some are taken off
  pub all_dropped : (P : X → Type 0) (xs ys : List X) (n : ℕ) → ys ≡ drop n xs → AllByRecursion P xs → AllByRecursion P ys
  all_dropped P xs ys n is all = subst (AllByRecursion P) (sym is) (dropped n xs all)
    where
      dropped : (n : ℕ) (xs : List X) → AllByRecursion P xs → AllByRecursion P (drop n xs)
      dropped zero xs all = all
      dropped (suc n) [] all = all
      dropped (suc n) (x ∷ xs) all = dropped n xs all.1

  pub all_longer : (xs ys : List X) (n : ℕ) → ys ≡ drop n xs → n ≤ length xs → length ys + n ≡ length xs
  all_longer xs ys n is within = omega (arith, ap length is, length-drop n xs, within)

-- ---- live snapshots

-- a live number has a snapshot, with the text that the definition keeps under it
pub record IsKept (n : ℕ) (held kept : List Kept) : Type 0 where
  pub there : is_some (find (has_number n) held) ≡ true
  pub same : kept_text n held ≡ kept_text n kept

abbrev pub AreKept : List ℕ → List Kept → List Kept → Type 0
AreKept live held kept = (n : ℕ) → list_any (λ m. m == n) live ≡ true → IsKept n held kept

pub none_kept : (held kept : List Kept) → AreKept [] held kept
none_kept held kept n is = absurd (false≢true is)

taken_kept : (n k : ℕ) (t : List ℕ) (live : List ℕ) (held kept : List Kept) (b : Bool) → (k == n) ≡ b → (b || list_any (λ m. m == n) live) ≡ true → AreKept live held kept
    → IsKept n (record { number = k; text = t } ∷ held) (record { number = k; text = t } ∷ kept)
taken_kept n k t live held kept true e is all = record { there = rw e refl; same = rw e refl }
taken_kept n k t live held kept false e is all = let before = all n is in record { there = rw e before.there; same = rw e before.same }

or_true : (b : Bool) → (b || true) ≡ true
or_true true = refl
or_true false = refl

-- a number that is live after another was ended
record IsOther (n k : ℕ) (live : List ℕ) : Type 0 where
  live_before : list_any (λ m. m == n) live ≡ true
  other : (n == k) ≡ false

one_other : (n m k : ℕ) → (m == n) ≡ true → (m == k) ≡ false → (n == k) ≡ false
one_other n m k same isnt = grind (arith, nat_tests, same, isnt)

others_by : (n m k : ℕ) (ms : List ℕ) (a b : Bool) → (m == k) ≡ a → (m == n) ≡ b → (list_any (λ m. m == n) (filter (λ m. not (m == k)) ms) ≡ true → IsOther n k ms)
    → list_any (λ m. m == n) (cond (not a) (m ∷ filter (λ m. not (m == k)) ms) (filter (λ m. not (m == k)) ms)) ≡ true → IsOther n k (m ∷ ms)
others_by n m k ms true b is_k is_n more h = let o = more h in record { live_before = rw o.live_before (or_true (m == n)); other = o.other }
others_by n m k ms false true is_k is_n more h = record { live_before = rw is_n refl; other = one_other n m k is_n is_k }
others_by n m k ms false false is_k is_n more h = let left : list_any (λ m. m == n) (filter (λ m. not (m == k)) ms) ≡ true = rw is_n at h in let o = more left in record { live_before = rw (is_n, o.live_before) refl; other = o.other }

others_live : (n k : ℕ) (live : List ℕ) → list_any (λ m. m == n) (filter (λ m. not (m == k)) live) ≡ true → IsOther n k live
others_live n k [] h = absurd (false≢true h)
others_live n k (m ∷ ms) h = others_by n m k ms (m == k) (m == n) refl refl (λ more. others_live n k ms more) h

other_not : (n m k : ℕ) → (m == k) ≡ true → (n == k) ≡ false → (m == n) ≡ false
other_not n m k same isnt = grind (arith, nat_tests, same, isnt)

found_by : (n k : ℕ) (s : Kept) (ss : List Kept) (a : Bool) → (s.number == k) ≡ a → (n == k) ≡ false → find (has_number n) (without_first k ss) ≡ find (has_number n) ss
    → find (has_number n) (cond a ss (s ∷ without_first k ss)) ≡ find (has_number n) (s ∷ ss)
found_by n k s ss true is isnt more = rw (other_not n s.number k is isnt) refl
found_by n k s ss false is isnt more = ap (λ (o : Option Kept). cond (s.number == n) (Some s) o) more

-- the others stay where one is ended
found_without : (n k : ℕ) (held : List Kept) → (n == k) ≡ false → find (has_number n) (without_first k held) ≡ find (has_number n) held
found_without n k [] isnt = refl
found_without n k (s ∷ ss) isnt = found_by n k s ss (s.number == k) refl isnt (found_without n k ss isnt)

ended_kept : (k : ℕ) (live : List ℕ) (held kept : List Kept) → AreKept live held kept → AreKept (filter (λ m. not (m == k)) live) (without_first k held) kept
ended_kept k live held kept all n is =
    let o = others_live n k live is in
    let before = all n o.live_before in
    let found = found_without n k held o.other in
    record { there = ap (λ (x : Option Kept). is_some x) found ∙ before.there; same = ap (λ (x : Option Kept). text_kept x) found ∙ before.same }

after_kept : (s : State) (c : Command) (live : List ℕ) (held kept : List Kept) → AreKept live held kept → AreKept (live_after c live) (held_after s c held) (kept_after s c kept)
after_kept s (command.Take k) live held kept all = λ n h. taken_kept n k s.text live held kept (k == n) refl h all
after_kept s (command.Release k) live held kept all = ended_kept k live held kept all
after_kept s (command.Send k reads) live held kept all = ended_kept k live held kept all
after_kept s _ live held kept all = all

-- a command on live snapshots is answered from them as from the texts that were taken, whatever is found later
same_reply : (s : State) (c : Command) (live : List ℕ) (held kept : List Kept) (found later : List (Option Matches)) → is_live live c ≡ true → AreKept live held kept → length found ≡ patterns_in c
    → plain_reply 1 s held found c ≡ plain_reply 1 s kept (found ++ later) c
same_reply s (command.Read k reads) live held kept found later at all many =
    ap (λ t. reply.Answered (plain_answers t found reads)) (all k at).same ∙ ap reply.Answered (sym (answers_first (kept_text k kept) found later reads many))
same_reply s (command.Send k reads) live held kept found later at all many =
    ap (λ t. reply.Answered (plain_answers t found reads)) (all k at).same ∙ ap reply.Answered (sym (answers_first (kept_text k kept) found later reads many))
same_reply s _ live held kept found later at all many = refl

held_by : (c : Command) (live : List ℕ) (held kept : List Kept) → is_live live c ≡ true → AreKept live held kept → is_held held c ≡ true
held_by (command.Read k reads) live held kept at all = (all k at).there
held_by (command.Send k reads) live held kept at all = (all k at).there
held_by _ live held kept at all = refl

pub both : (a b : Bool) → (a && b) ≡ true → (a ≡ true) × (b ≡ true)
both true b h = (refl, h)
both false b h = absurd (false≢true h)

-- the texts of live snapshots are well-formed
abbrev pub AreWhole : List Kept → Type 0
AreWhole held = AllByRecursion (λ (k : Kept). IsWellFormed k.text) held

whole_without : (n : ℕ) (k : Kept) (ks : List Kept) (b : Bool) → AreWhole (k ∷ ks) → AreWhole (without_first n ks) → AreWhole (cond b ks (k ∷ without_first n ks))
whole_without n k ks true all rest = all.1
whole_without n k ks false all rest = (all.0, rest)

whole_ended : (n : ℕ) (held : List Kept) → AreWhole held → AreWhole (without_first n held)
whole_ended n [] all = all
whole_ended n (k ∷ ks) all = whole_without n k ks (has_number n k) all (whole_ended n ks all.1)

whole_after : (s : State) (c : Command) (held : List Kept) → IsWellFormed s.text → AreWhole held → AreWhole (held_after s c held)
whole_after s (command.Take k) held text all = (text, all)
whole_after s (command.Release k) held text all = whole_ended k held all
whole_after s (command.Send k reads) held text all = whole_ended k held all
whole_after s _ held text all = all

whole_by : (n : ℕ) (k : Kept) (ks : List Kept) (b : Bool) (t : List ℕ) → AreWhole (k ∷ ks) → (Some t ≡ option_map (λ (x : Kept). x.text) (find (has_number n) ks) → IsWellFormed t) → Some t ≡ option_map (λ (x : Kept). x.text) (cond b (Some k) (find (has_number n) ks)) → IsWellFormed t
whole_by n k ks true t all rest is = subst IsWellFormed (sym (same_Some t k.text is)) all.0
whole_by n k ks false t all rest is = rest is

-- so is the text of one that is found
pub whole_found : (n : ℕ) (held : List Kept) (t : List ℕ) → AreWhole held → Some t ≡ option_map (λ (x : Kept). x.text) (find (has_number n) held) → IsWellFormed t
whole_found n [] t all is = absurd (none-some t (sym is))
whole_found n (k ∷ ks) t all is = whole_by n k ks (has_number n k) t all (whole_found n ks t all.1) is

-- ---- the run

-- the first i commands were answered, and the rest gives what all give; `told` is told of the patterns that are left of `all`
pub record RunsSoFar (first now : State) (held : List Kept) (all told : List (Option Matches)) (left : ℕ) (done : List Reply) (commands : List Command) (i : ℕ) : Type 0 where
  pub kept : List Kept
  pub live : List ℕ
  pub snapshots : AreKept live held kept
  pub whole : AreWhole held
  pub turns : are_live live (drop i commands) ≡ true
  pub watchers : watches_in (drop i commands) ≤ left
  pub matchers : length told ≡ patterns_of (drop i commands)
  pub used : List (Option Matches)
  pub found : List (Option Matches)
  pub split : all ≡ used ++ told
  pub agree : Agree used found
  pub replied : (later : List (Option Matches)) → done ++ plain_replies 1 later now kept (drop i commands) ≡ plain_replies 1 (found ++ later) first [] commands
  pub reached : after now (calls_of (drop i commands)) ≡ after first (calls_of commands)
  pub counted : now.count ≤ first.count + i
  pub sound : IsSound now

pub runs_first : (first : State) (held : List Kept) (all : List (Option Matches)) (left : ℕ) (commands : List Command) → are_live [] commands ≡ true → AreWhole held → watches_in commands ≤ left → length all ≡ patterns_of commands → IsSound first
    → RunsSoFar first first held all all left [] commands 0
runs_first first held all left commands turns whole watchers matchers sound = record {
  kept = [];
  live = [];
  snapshots = none_kept held [];
  whole = whole;
  turns = turns;
  watchers = watchers;
  matchers = matchers;
  used = [];
  found = [];
  split = refl;
  agree = tt;
  replied = λ later. refl;
  reached = refl;
  counted = omega arith;
  sound = sound;
}

-- the next command reads a live snapshot if any, and finds its watcher and its matchers
pub record IsReady (held : List Kept) (told : List (Option Matches)) (left : ℕ) (c : Command) : Type 0 where
  pub there : is_held held c ≡ true
  pub watcher : watches_in (c ∷ []) ≤ left
  pub matchers : patterns_in c ≤ length told

pub watches_first : (c : Command) (cs : List Command) → watches_in (c ∷ cs) ≡ watches_in (c ∷ []) + watches_in cs
watches_first c cs = omega (arith, sum_by-cons (λ (d : Command). cond (is_watch d) 1 0) c cs, sum_by-cons (λ (d : Command). cond (is_watch d) 1 0) c [])

pub ready : (first now : State) (held : List Kept) (all told : List (Option Matches)) (left : ℕ) (done : List Reply) (commands : List Command) (i : ℕ) (c : Command) → i < length commands → c ≡ get_or commands i c
    → RunsSoFar first now held all told left done commands i → IsReady held told left c
ready first now held all told left done commands i c within at so_far =
    let rest = rest_at commands i c within at in
    let turns : (is_live so_far.live c && are_live (live_after c so_far.live) (drop (i + 1) commands)) ≡ true = ap (λ (cs : List Command). are_live so_far.live cs) (sym rest) ∙ so_far.turns in
    let count : watches_in (c ∷ drop (i + 1) commands) ≤ left = subst (λ (cs : List Command). watches_in cs ≤ left) rest so_far.watchers in
    let many : length told ≡ patterns_of (c ∷ drop (i + 1) commands) = so_far.matchers ∙ ap patterns_of rest in
    record {
      there = held_by c so_far.live held so_far.kept (both _ _ turns).0 so_far.snapshots;
      watcher = omega (arith, count, watches_first c (drop (i + 1) commands));
      matchers = omega (arith, many, sum_by-cons patterns_in c (drop (i + 1) commands));
    }

-- one more command was answered
pub runs_more : (first now next : State) (held then : List Kept) (all told rest : List (Option Matches)) (left less : ℕ) (done : List Reply) (commands : List Command) (i : ℕ) (c : Command) (reply : Reply) → i < length commands → c ≡ get_or commands i c
    → IsReply now held told rest c next reply → IsSound next → then ≡ held_after now c held → less + watches_in (c ∷ []) ≡ left
    → RunsSoFar first now held all told left done commands i → RunsSoFar first next then all rest less (done ++ reply ∷ []) commands (i + 1)
runs_more first now next held then all told rest left less done commands i c reply within at is sound opens watches so_far =
    let cs : List Command = drop (i + 1) commands in
    let kept : List Kept = so_far.kept in
    let step : IsNext now c cs = next_of now c cs in
    let rest_is : drop i commands ≡ c ∷ cs = rest_at commands i c within at in
    let turns = both _ _ (ap (λ (cs : List Command). are_live so_far.live cs) (sym rest_is) ∙ so_far.turns) in
    let count : watches_in (c ∷ cs) ≤ left = subst (λ (cs : List Command). watches_in cs ≤ left) rest_is so_far.watchers in
    let many : length told ≡ patterns_of (c ∷ cs) = so_far.matchers ∙ ap patterns_of rest_is in
    let reached : next ≡ after_call now (call_of c) = ap (λ (p : State × Reply). p.0) is.is in
    let last : after (after_call now (call_of c)) (calls_of cs) ≡ after first (calls_of commands) =
    sym step.later ∙ (ap (λ (cs : List Command). after now (calls_of cs)) (sym rest_is) ∙ so_far.reached) in
    let counted : next.count ≤ suc now.count = subst (λ (s : State). s.count ≤ suc now.count) (sym reached) step.counts in
    record {
      kept = kept_after now c kept;
      live = live_after c so_far.live;
      snapshots = rw opens (after_kept now c so_far.live held kept so_far.snapshots);
      whole = rw opens (whole_after now c held so_far.sound.whole so_far.whole);
      turns = turns.1;
      watchers = omega (arith, count, watches_first c cs, watches);
      matchers = omega (arith, many, sum_by-cons patterns_in c cs, found_left (patterns_in c) told rest is.found is.hits);
      used = so_far.used ++ is.hits.told;
      found = so_far.found ++ is.found;
      split = so_far.split ∙ (ap (λ (ms : List (Option Matches)). so_far.used ++ ms) is.hits.are ∙ sym (append_assoc so_far.used is.hits.told rest));
      agree = agree-append so_far.used so_far.found is.hits.told is.found so_far.agree is.hits.agree;
      replied = λ later. replies_more first now next kept so_far.found is.found later done commands cs c reply (drop i commands) rest_is is.hits.many reached
          (ap (λ (p : State × Reply). p.1) is.is ∙ same_reply now c so_far.live held kept is.found later turns.0 so_far.snapshots is.hits.many)
          (so_far.replied (is.found ++ later));
      reached = rw reached last;
      counted = omega (arith, so_far.counted, counted);
      sound = sound;
    }
  where
    replies_more : (first now next : State) (kept : List Kept) (found more later : List (Option Matches)) (done : List Reply) (commands cs : List Command) (c : Command) (reply : Reply) (rest : List Command) → rest ≡ c ∷ cs → length more ≡ patterns_in c
        → next ≡ after_call now (call_of c) → reply ≡ plain_reply 1 now kept (more ++ later) c
        → done ++ plain_replies 1 (more ++ later) now kept rest ≡ plain_replies 1 (found ++ (more ++ later)) first [] commands
        → (done ++ reply ∷ []) ++ plain_replies 1 later next (kept_after now c kept) cs ≡ plain_replies 1 ((found ++ more) ++ later) first [] commands
    replies_more first now next kept found more later done commands cs c reply rest rest_is many reached replied so_far =
        let left : drop (patterns_in c) (more ++ later) ≡ later = drop_at more later (patterns_in c) many in
        append_assoc done (reply ∷ []) (plain_replies 1 later next (kept_after now c kept) cs)
        ∙ (rw (replied, reached) (ap (λ (ms : List (Option Matches)). done ++ (plain_reply 1 now kept (more ++ later) c ∷ plain_replies 1 ms (after_call now (call_of c)) (kept_after now c kept) cs)) (sym left))
        ∙ (ap (λ (cs : List Command). done ++ plain_replies 1 (more ++ later) now kept cs) (sym rest_is)
        ∙ (so_far ∙ ap (λ (ms : List (Option Matches)). plain_replies 1 ms first [] commands) (sym (append_assoc found more later)))))

nothing_left : (xs : List (Option Matches)) → length xs ≡ 0 → xs ≡ []
nothing_left [] none = refl
nothing_left (x ∷ xs) none = absurd (omega (arith, none))

-- all commands were answered
pub runs_all : (first now : State) (held : List Kept) (all told : List (Option Matches)) (left : ℕ) (done : List Reply) (commands : List Command) (i : ℕ) → length commands ≤ i
    → RunsSoFar first now held all told left done commands i → AreReplies first all commands done × (now ≡ after first (calls_of commands))
runs_all first now held all told left done commands i past so_far =
    let none : drop i commands ≡ [] = drop_of_length-le commands {i = i} past in
    let no_more : told ≡ [] = nothing_left told (so_far.matchers ∙ ap patterns_of none) in
    let used : all ≡ so_far.used = so_far.split ∙ (ap (λ (ms : List (Option Matches)). so_far.used ++ ms) no_more ∙ append-nil so_far.used) in (
      record {
        found = so_far.found;
        agree = rw used so_far.agree;
        are = sym (append-nil done) ∙ (ap (λ (cs : List Command). done ++ plain_replies 1 [] now so_far.kept cs) (sym none)
            ∙ (so_far.replied [] ∙ ap (λ (ms : List (Option Matches)). plain_replies 1 ms first [] commands) (append-nil so_far.found)));
      },
      sym (ap (λ (cs : List Command). after now (calls_of cs)) none) ∙ so_far.reached,
    )

-- the one item of a list
pub one_item : {A : Type 0} (xs : List A) (x : A) → length xs ≡ 1 → x ≡ get_or xs 0 x → xs ≡ x ∷ []
one_item [] x one at = cc
one_item (y ∷ []) x one at = ap (λ z. z ∷ []) (sym at)
one_item (y ∷ z ∷ zs) x one at = absurd (omega arith)

-- the parts of a transcript, as a run gathers them
pub lawful_run : (script : Script) (opening : List ℕ) (told : List (Option Matches)) (commands : List Command) (count : ℕ) (bytes : List ℕ) (replies : List Reply) (sessions : List (List Reply)) (version : ℕ) → script.sessions ≡ commands ∷ [] → script.version ≡ 1
    → count ≡ (after (opened opening) (calls_of commands)).count → bytes ≡ text_of (after (opened opening) (calls_of commands)).text
    → AreReplies (opened opening) told commands replies → sessions ≡ replies ∷ [] → version ≡ script.version
    → IsLawful script opening told (record { end = record { count = count; text = bytes }; sessions = sessions; version = version })
lawful_run script opening told commands count bytes replies sessions version one first counts text answers are same =
    let all : count ≡ length (calls_of commands) = counts ∙ after_counts (opened opening) (calls_of commands) ∙ zero-add (length (calls_of commands)) in
    let listed : sessions ≡ plain_replies script.version answers.found (opened opening) [] commands ∷ [] =
    are ∙ ap (λ (rs : List Reply). rs ∷ []) (answers.are ∙ ap (λ (v : ℕ). plain_replies v answers.found (opened opening) [] commands) (sym first)) in
    lawful_by script opening told answers.found _ answers.agree (rw (all, text, listed, same) (plain_is_lawful script opening answers.found commands one))
