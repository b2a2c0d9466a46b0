-- What one session does from its desk, as the history has it.
use Rattle.std.proofs.Common.{◌≡◌, ℕ, ◌+◌, List, [], ◌∷◌, ◌++◌, map, drop, Bool, true, false, cond, eqb, ◌&&◌, Option, Some, None, refl, sym, ◌∙◌, ap, subst, eq-eqb, append_assoc, append-nil}
use Rattle.std.specs.Prelude.{◌==◌, find}
use Rattle.std.specs.List.{AllByRecursion}
use Rattle.std.proofs.lemmas.Bool.{eqb-true, false≢true}
use mathlib.Core.List.{IsPrefix}
use Rattle.machine.specs.declared.command.Command.{Command}
use Rattle.machine.specs.declared.command.Command.TheVariants as command
use Rattle.machine.specs.declared.reply.Reply.{Reply}
use Rattle.machine.specs.Machine.{State, Call}
use Rattle.machine.specs.Answers.{Matches, call_of, number_of}
use Rattle.machine.specs.Lawful as lawful
use Rattle.machine.specs.Lawful.{has_form, have_forms, with_entry, with_number, IsAsked, asked_in, reads_of, answers_in, ends, asked_of, patterns_in, Taking, with_taking, takings}
use Rattle.machine.specs.Histories.{number_in}
use Rattle.machine.specs.Plain.{Kept, text_kept, kept_text}
use Rattle.machine.proofs.Forms.{reply_form}
use Rattle.machine.proofs.OneSession.{all-append}
use Rattle.turn_table.specs.declared.view.Role.{Role}
use Rattle.turn_table.specs.History.{entry, is_call_of, calls_under}
use Rattle.turn_table.specs.Views.{part, desk, caller, added, Mine}
use Rattle.turn_table.proofs.HistoryLemmas.{prefix_self, prefix_trans, squeezed}
use Rattle.shared_buffer.specs.Entries.{Entry, called, handed, given_back, taken, finished, squashed, shaped, is_plain}
use Rattle.shared_buffer.specs.Tokens.{Line, Known, Opening, rules, behind, IsInformed, IsTaken}
use Rattle.sessions.specs.Gathered.{with_told, written, with_called, calls_answered, told_of, HasFront}
use Rattle.sessions.specs.Running.{Doing, without_first, IsPlay, IsTake, IsRead, IsSend, IsRelease, IsSquash, IsDone, AreDone}

-- ---- lists

map_push : (m : List Line) (l : Line) → map told_of (m ++ l ∷ []) ≡ map told_of m ++ l.told ∷ []
map_push [] l = refl
map_push (x ∷ m) l = ap (λ ts. x.told ∷ ts) (map_push m l)

entry_append : (o : Option Call) (n : Option ℕ) (r : Reply) (es fs : List lawful.Entry) → with_entry o n r (es ++ fs) ≡ with_entry o n r es ++ fs
entry_append None n r es fs = refl
entry_append (Some call) None r es fs = refl
entry_append (Some call) (Some n) r es fs = refl

told_append : (t : Entry) (es fs : List lawful.Entry) → with_told t (es ++ fs) ≡ with_told t es ++ fs
told_append (called c None) es fs = refl
told_append (called c (Some r)) es fs = entry_append (call_of c) (number_of r) r es fs
told_append (handed n) es fs = refl
told_append (given_back n) es fs = refl
told_append (taken text version) es fs = refl
told_append (finished text count) es fs = refl
told_append (squashed depth) es fs = refl
told_append (shaped sizes) es fs = refl

written_push : (m : List Line) (l : Line) → written (m ++ l ∷ []) ≡ written m ++ with_told l.told []
written_push [] l = refl
written_push (x ∷ m) l = ap (with_told x.told) (written_push m l) ∙ told_append x.told (written m) (with_told l.told [])

numbers_append : (es fs : List lawful.Entry) → map number_in (es ++ fs) ≡ map number_in es ++ map number_in fs
numbers_append [] fs = refl
numbers_append (e ∷ es) fs = ap (λ ns. e.at ∷ ns) (numbers_append es fs)

one_number : (o : Option Call) (n : Option ℕ) (r : Reply) (call : Call) → o ≡ Some call → map number_in (with_entry o n r []) ≡ with_number n []
one_number o None r call is = rw is refl
one_number o (Some n) r call is = rw is refl

called_append : (o : Option Call) (c : Command) (r : Reply) (ts : List Entry) → with_called o c r [] ++ ts ≡ with_called o c r ts
called_append None c r ts = refl
called_append (Some call) c r ts = refl

all_both : {X : Type 0} (P : X → Type 0) (b : Bool) (xs : List X) → (b ≡ false → AllByRecursion P xs) → AllByRecursion P (cond b [] xs)
all_both P true xs all = tt
all_both P false xs all = all refl

-- ---- a command that is a numbered call reads no snapshot, ends none and takes none

record IsQuiet (c : Command) : Type 0 where
  call : Call
  is : call_of c ≡ Some call
  through : (k : ℕ) → reads_of k c ≡ []
  keeps : (k : ℕ) → ends k c ≡ false
  takes : (r : Reply) (i : ℕ) (earlier : List ℕ) (told : List (Option Matches)) (cs : List Command) (rs : List Reply) (rest : List Taking) → with_taking c r i earlier told cs rs rest ≡ rest

quiet : (c : Command) → is_plain c ≡ true → IsQuiet c
quiet (command.Batch edits) plain = absurd (false≢true plain)
quiet (command.Watch id) plain = absurd (false≢true plain)
quiet (command.Unwatch id) plain = absurd (false≢true plain)
quiet (command.Take k) plain = absurd (false≢true plain)
quiet (command.Read k reads) plain = absurd (false≢true plain)
quiet (command.Send k reads) plain = absurd (false≢true plain)
quiet (command.Release k) plain = absurd (false≢true plain)
quiet command.Squash plain = absurd (false≢true plain)
quiet _ plain = record { call = _; is = refl; through = λ k. refl; keeps = λ k. refl; takes = λ r i earlier told cs rs rest. refl }

-- ---- the texts of snapshots

kept_by : (j : ℕ) (s : Kept) (ss : List Kept) (k : ℕ) (b : Bool) → eqb s.number k ≡ b → eqb k j ≡ false → find (λ x. x.number == j) (without_first k ss) ≡ find (λ x. x.number == j) ss
    → find (λ x. x.number == j) (cond b ss (s ∷ without_first k ss)) ≡ find (λ x. x.number == j) (s ∷ ss)
kept_by j s ss k true is other more = let same : s.number ≡ k = eqb-true s.number k is in let apart : eqb s.number j ≡ false = rw same other in rw apart refl
kept_by j s ss k false is other more = ap (λ (x : Option Kept). cond (s.number == j) (Some s) x) more

found_without : (j : ℕ) (held : List Kept) (k : ℕ) → eqb k j ≡ false → find (λ x. x.number == j) (without_first k held) ≡ find (λ x. x.number == j) held
found_without j [] k other = refl
found_without j (s ∷ ss) k other = kept_by j s ss k (eqb s.number k) refl other (found_without j ss k other)

newest : (k : ℕ) (text : List ℕ) (kept : List Kept) → kept_text k (record { number = k; text = text } ∷ kept) ≡ text
newest k text kept = let same : eqb k k ≡ true = eq-eqb k k refl in rw same refl

older : (k j : ℕ) (text : List ℕ) (kept : List Kept) → eqb k j ≡ false → kept_text j (record { number = k; text = text } ∷ kept) ≡ kept_text j kept
older k j text kept other = rw other refl

module _ (o : Opening) (n : ℕ) where
  -- the desk's own calls
  pub own_is : (v : Known) (m : List Line) → v.role ≡ desk (part n m ∷ []) → IsInformed o v → m ≡ calls_under (rules o) n v.seen
  own_is v m role informed = let mine : Mine (rules o) v.seen (desk (part n m ∷ [])) = subst (Mine (rules o) v.seen) role informed.parts in mine.0.0

  -- one command was answered
  record Step (told : List (Option Matches)) (c : Command) (r : Reply) (m : List Line) (v u : Doing) : Type 0 where
    mine : List Line
    role : u.knows.role ≡ desk (part n mine ∷ [])
    informed : IsInformed o u.knows
    begun : IsPrefix v.knows.seen u.knows.seen
    calls : map told_of mine ≡ map told_of m ++ with_called (call_of c) c r []
    form : has_form o.version c r ≡ true
    numbers : map number_in (written mine) ≡ map number_in (written m) ++ with_number (number_of r) []
    reads : (k : ℕ) → AllByRecursion (IsAsked (kept_text k v.kept)) (asked_in told (reads_of k c) (answers_in r))
    keeps : (k : ℕ) → ends k c ≡ false → kept_text k u.kept ≡ kept_text k v.kept
    takes : (h : List Line) (i : ℕ) (left : List (Option Matches)) (cs : List Command) (rs : List Reply) (rest : List Taking) → IsPrefix u.knows.seen h
        → ((k : ℕ) → AllByRecursion (IsAsked (kept_text k u.kept)) (asked_of k left cs rs)) → AllByRecursion (HasFront o n h) rest → AllByRecursion (HasFront o n h) (with_taking c r i (map number_in (written m)) left cs rs rest)

  play_step : (told : List (Option Matches)) (c : Command) (r : Reply) (m : List Line) (v u : Doing) → v.knows.role ≡ desk (part n m ∷ []) → IsPlay o c r v u → Step told c r m v u
  play_step told c r m v u role p =
      let q : IsQuiet c = quiet c p.plain in
      let l : Line = entry (Some n) (called c (Some r)) in
      let s : State = (behind o (v.knows.seen ++ p.called.between)).plain in record {
        mine = m ++ l ∷ [];
        role = subst (λ (x : Role Entry). u.knows.role ≡ added (rules o) x (entry (caller x) (called c (Some r)))) role p.called.role;
        informed = p.called.informed;
        begun = (p.called.between ++ entry (caller v.knows.role) (called c (Some r)) ∷ [], sym (append_assoc v.knows.seen p.called.between (entry (caller v.knows.role) (called c (Some r)) ∷ [])) ∙ sym p.called.seen);
        calls = map_push m l ∙ ap (λ x. map told_of m ++ with_called x c r []) (sym q.is);
        form = subst (λ x. has_form o.version c x ≡ true) (sym p.called.reply) (reply_form o.version s [] [] c);
        numbers = ap (map number_in) (written_push m l) ∙ numbers_append (written m) (with_told l.told []) ∙ ap (λ ns. map number_in (written m) ++ ns) (one_number (call_of c) (number_of r) r q.call q.is);
        reads = λ k. subst (λ rs. AllByRecursion (IsAsked (kept_text k v.kept)) (asked_in told rs (answers_in r))) (sym (q.through k)) tt;
        keeps = λ k ended. ap (kept_text k) p.kept;
        takes = λ h i left cs rs rest begun asked fronts. subst (AllByRecursion (HasFront o n h)) (sym (q.takes r i (map number_in (written m)) left cs rs rest)) fronts;
      }

  take_step : (told : List (Option Matches)) (k : ℕ) (r : Reply) (m : List Line) (v u : Doing) → v.knows.role ≡ desk (part n m ∷ []) → IsInformed o v.knows → IsTake o k r v u → Step told (command.Take k) r m v u
  take_step told k r m v u role informed p =
      let t : IsTaken o p.text p.version v.knows u.knows = p.took in
      let after : u.knows.role ≡ desk (part n m ∷ []) = t.stays.role ∙ role in
      let then_own : calls_under (rules o) n v.knows.seen ≡ calls_under (rules o) n u.knows.seen = sym (own_is v.knows m role informed) ∙ own_is u.knows m after t.stays.informed in
      let front_own : m ≡ calls_under (rules o) n t.front = own_is v.knows m role informed ∙ squeezed (is_call_of (rules o) n) v.knows.seen t.front u.knows.seen t.floor t.seen then_own in
      subst (λ x. Step told (command.Take k) x m v u) (sym p.tells) (record {
        mine = m;
        role = after;
        informed = t.stays.informed;
        begun = t.stays.seen;
        calls = sym (append-nil (map told_of m));
        form = refl;
        numbers = sym (append-nil (map number_in (written m)));
        reads = λ j. tt;
        keeps = λ j ended. ap (kept_text j) p.kept ∙ older k j p.text v.kept ended;
        takes = λ h i left cs rs rest begun asked fronts. (
          record {
            front = t.front;
            begun = prefix_trans t.front u.knows.seen h t.seen begun;
            earlier = ap (λ ls. map number_in (written ls)) (sym front_own);
            shown = t.version_is;
            answers = subst (λ x. AllByRecursion (IsAsked x) (asked_of k left cs rs)) (ap (kept_text k) p.kept ∙ newest k p.text v.kept ∙ t.text_is) (asked k);
          },
          fronts,
        );
      })

  read_by : (t : List ℕ) (told : List (Option Matches)) (reads : List _) (answers : List _) (b : Bool) → (b ≡ true → AllByRecursion (IsAsked t) (asked_in told reads answers)) → AllByRecursion (IsAsked t) (asked_in told (cond b reads []) answers)
  read_by t told reads answers true all = all refl
  read_by t told reads answers false all = tt

  read_step : (told : List (Option Matches)) (k : ℕ) (reads : List _) (r : Reply) (m : List Line) (v u : Doing) → v.knows.role ≡ desk (part n m ∷ []) → IsInformed o v.knows → IsRead o told k reads r v u → Step told (command.Read k reads) r m v u
  read_step told k reads r m v u role informed p =
      subst (λ y. Step told (command.Read k reads) r m v y) (sym p.same)
      (subst (λ x. Step told (command.Read k reads) x m v v) (sym p.tells) (record {
        mine = m;
        role = role;
        informed = informed;
        begun = prefix_self v.knows.seen;
        calls = sym (append-nil (map told_of m));
        form = p.forms;
        numbers = sym (append-nil (map number_in (written m)));
        reads = λ j. read_by (kept_text j v.kept) told reads p.answers (k == j) (λ same. subst (λ i. AllByRecursion (IsAsked (kept_text i v.kept)) (asked_in told reads p.answers)) (eqb-true k j same) p.right);
        keeps = λ j ended. refl;
        takes = λ h i left cs rs rest begun asked fronts. fronts;
      }))

  release_step : (told : List (Option Matches)) (k : ℕ) (r : Reply) (m : List Line) (v u : Doing) → v.knows.role ≡ desk (part n m ∷ []) → IsInformed o v.knows → IsRelease o k r v u → Step told (command.Release k) r m v u
  release_step told k r m v u role informed p =
      subst (λ x. Step told (command.Release k) x m v u) (sym p.tells) (record {
        mine = m;
        role = ap (λ (x : Known). x.role) p.knows ∙ role;
        informed = subst (IsInformed o) (sym p.knows) informed;
        begun = subst (λ (x : Known). IsPrefix v.knows.seen x.seen) (sym p.knows) (prefix_self v.knows.seen);
        calls = sym (append-nil (map told_of m));
        form = refl;
        numbers = sym (append-nil (map number_in (written m)));
        reads = λ j. tt;
        keeps = λ j ended. ap (kept_text j) p.kept ∙ ap text_kept (found_without j v.kept k ended);
        takes = λ h i left cs rs rest begun asked fronts. fronts;
      })

  send_step : (told : List (Option Matches)) (k : ℕ) (reads : List _) (r : Reply) (m : List Line) (v u : Doing) → v.knows.role ≡ desk (part n m ∷ []) → IsInformed o v.knows → IsSend o told k reads r v u → Step told (command.Send k reads) r m v u
  send_step told k reads r m v u role informed p =
      subst (λ x. Step told (command.Send k reads) x m v u) (sym p.tells) (record {
        mine = m;
        role = ap (λ (x : Known). x.role) p.knows ∙ role;
        informed = subst (IsInformed o) (sym p.knows) informed;
        begun = subst (λ (x : Known). IsPrefix v.knows.seen x.seen) (sym p.knows) (prefix_self v.knows.seen);
        calls = sym (append-nil (map told_of m));
        form = p.forms;
        numbers = sym (append-nil (map number_in (written m)));
        reads = λ j. read_by (kept_text j v.kept) told reads p.answers (k == j) (λ same. subst (λ i. AllByRecursion (IsAsked (kept_text i v.kept)) (asked_in told reads p.answers)) (eqb-true k j same) p.right);
        keeps = λ j ended. ap (kept_text j) p.kept ∙ ap text_kept (found_without j v.kept k ended);
        takes = λ h i left cs rs rest begun asked fronts. fronts;
      })

  squash_step : (told : List (Option Matches)) (r : Reply) (m : List Line) (v u : Doing) → v.knows.role ≡ desk (part n m ∷ []) → IsSquash o r v u → Step told command.Squash r m v u
  squash_step told r m v u role p =
      subst (λ x. Step told command.Squash x m v u) (sym p.tells) (record {
        mine = m;
        role = p.stays.role ∙ role;
        informed = p.stays.informed;
        begun = p.stays.seen;
        calls = sym (append-nil (map told_of m));
        form = refl;
        numbers = sym (append-nil (map number_in (written m)));
        reads = λ j. tt;
        keeps = λ j ended. ap (kept_text j) p.kept;
        takes = λ h i left cs rs rest begun asked fronts. fronts;
      })

  step_of : (told : List (Option Matches)) (c : Command) (r : Reply) (m : List Line) (v u : Doing) → v.knows.role ≡ desk (part n m ∷ []) → IsInformed o v.knows → IsDone o told c r v u → Step told c r m v u
  step_of told (command.Take k) r m v u role informed done = take_step told k r m v u role informed done
  step_of told (command.Read k reads) r m v u role informed done = read_step told k reads r m v u role informed done
  step_of told (command.Release k) r m v u role informed done = release_step told k r m v u role informed done
  step_of told command.Squash r m v u role informed done = squash_step told r m v u role done
  step_of told (command.Send k reads) r m v u role informed done = send_step told k reads r m v u role informed done
  step_of told c r m v u role informed done = play_step told c r m v u role done

  -- these commands were answered in turn; before them the desk had made the calls m
  pub record Did (told : List (Option Matches)) (i : ℕ) (cs : List Command) (rs : List Reply) (m : List Line) (v w : Doing) : Type 0 where
    pub mine : List Line
    pub role : w.knows.role ≡ desk (part n mine ∷ [])
    pub informed : IsInformed o w.knows
    pub begun : IsPrefix v.knows.seen w.knows.seen
    pub calls : map told_of mine ≡ map told_of m ++ calls_answered cs rs
    pub forms : have_forms o.version cs rs ≡ true
    pub reads : (k : ℕ) → AllByRecursion (IsAsked (kept_text k v.kept)) (asked_of k told cs rs)
    pub fronts : AllByRecursion (HasFront o n w.knows.seen) (takings told i (map number_in (written m)) cs rs)

  both_true : (a b : Bool) → a ≡ true → b ≡ true → (a && b) ≡ true
  both_true a b p q = rw (p, q) refl

  did_next : (told : List (Option Matches)) (i : ℕ) (c : Command) (cs : List Command) (r : Reply) (rs : List Reply) (m : List Line) (v u w : Doing) → (s : Step told c r m v u) → Did (drop (patterns_in c) told) (i + 1) cs rs s.mine u w → Did told i (c ∷ cs) (r ∷ rs) m v w
  did_next told i c cs r rs m v u w s d =
      let left : List (Option Matches) = drop (patterns_in c) told in record {
        mine = d.mine;
        role = d.role;
        informed = d.informed;
        begun = prefix_trans v.knows.seen u.knows.seen w.knows.seen s.begun d.begun;
        calls = d.calls ∙ ap (λ ts. ts ++ calls_answered cs rs) s.calls ∙ append_assoc (map told_of m) (with_called (call_of c) c r []) (calls_answered cs rs) ∙ ap (λ ts. map told_of m ++ ts) (called_append (call_of c) c r (calls_answered cs rs));
        forms = both_true (has_form o.version c r) (have_forms o.version cs rs) s.form d.forms;
        reads = λ k. all-append (IsAsked (kept_text k v.kept)) (asked_in told (reads_of k c) (answers_in r)) (cond (ends k c) [] (asked_of k left cs rs)) (s.reads k)
            (all_both (IsAsked (kept_text k v.kept)) (ends k c) (asked_of k left cs rs) (λ ended. subst (λ t. AllByRecursion (IsAsked t) (asked_of k left cs rs)) (s.keeps k ended) (d.reads k)));
        fronts = s.takes w.knows.seen i left cs rs (takings left (i + 1) (map number_in (written m) ++ with_number (number_of r) []) cs rs) d.begun d.reads
            (subst (λ ns. AllByRecursion (HasFront o n w.knows.seen) (takings left (i + 1) ns cs rs)) s.numbers d.fronts);
      }

  pub did : (told : List (Option Matches)) (i : ℕ) (cs : List Command) (rs : List Reply) (m : List Line) (v w : Doing) → v.knows.role ≡ desk (part n m ∷ []) → IsInformed o v.knows → AreDone o told cs rs v w → Did told i cs rs m v w
  did told i [] [] m v w role informed done = subst (λ x. Did told i [] [] m v x) (sym done) (record {
    mine = m;
    role = role;
    informed = informed;
    begun = prefix_self v.knows.seen;
    calls = sym (append-nil (map told_of m));
    forms = refl;
    reads = λ k. tt;
    fronts = tt;
  })
  did told i [] (r ∷ rs) m v w role informed done = absurd done
  did told i (c ∷ cs) [] m v w role informed done = absurd done
  did told i (c ∷ cs) (r ∷ rs) m v w role informed done =
      let s : Step told c r m v done.0 = step_of told c r m v done.0 role informed done.1 in
      did_next told i c cs r rs m v done.0 w s (did (drop (patterns_in c) told) (i + 1) cs rs s.mine done.0 w s.role s.informed done.2)
