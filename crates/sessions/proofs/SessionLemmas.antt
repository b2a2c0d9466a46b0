-- A session that is under way: the commands that it answered, and what is left.
use Rattle.std.proofs.Common.{◌≡◌, ℕ, ◌≤◌, List, [], ◌∷◌, ◌++◌, length, map, drop, Bool, true, false, cond, Option, refl, sym, ◌∙◌, ap, subst, arith, append_assoc, append-nil}
use Rattle.std.specs.Prelude.{◌==◌}
use Rattle.std.proofs.lemmas.Bool.{false≢true, and_parts}
use Rattle.std.proofs.lemmas.List.{length-drop}
use Rattle.std.proofs.lemmas.List.Sums.{sum_by-cons}
use Rattle.machine.specs.declared.command.Command.{Command}
use Rattle.machine.specs.declared.command.Command.TheVariants as command
use Rattle.machine.specs.declared.reads.Read.{Read}
use Rattle.machine.specs.declared.reads.ReadAnswer.{ReadAnswer}
use Rattle.machine.specs.declared.reply.Reply.{Reply}
use Rattle.machine.specs.declared.reply.Reply.TheVariants as reply
use Rattle.machine.specs.Answers.{Matches}
use Rattle.machine.specs.Lawful.{patterns_in, patterns_of}
use Rattle.machine.specs.Plain.{Kept, kept_text}
use Rattle.turn_table.specs.Calls.{Has, Turned}
use Rattle.turn_table.specs.Tokens.{IsDesk}
use Rattle.shared_buffer.specs.declared.shared.Refusal.{Refusal}
use Rattle.shared_buffer.specs.declared.shared.Refusal.TheVariants.{Spent}
use Rattle.shared_buffer.specs.declared.shared.Squash.{Squash}
use Rattle.shared_buffer.specs.declared.shared.Squash.TheVariants as squash
use Rattle.shared_buffer.specs.Entries.{is_plain, squashed}
use Rattle.shared_buffer.specs.Tokens.{Known, Opening, Called, IsEntered, IsSpent}
use Rattle.sessions.specs.Running.{Doing, without_first, IsDone, IsOut, IsTakenAs, IsAnswered, AreDone, IsRun}
use Rattle.sessions.specs.Reading.{AreRight}
use Rattle.sessions.proofs.ReadLemmas.{right_forms, right_asked, right_left}
use Rattle.sessions.specs.Rules.{without_number, numbers_after, can_answer, can_answer_all}
use Rattle.sessions.specs.Holding.{Held, hands_of, number_of}

pub turned_then : {V : Type 0} (P Q R : V → V → Type 0) (old mid new : List V) → ((v w x : V) → P v w → Q w x → R v x) → Turned P old mid → Turned Q mid new → Turned R old new
turned_then P Q R old mid new both p q v is =
    let one = p v is in
    let two = q one.0 one.1 in
    (two.0, two.1, both v one.0 two.0 one.2 two.2)

pub turned_as : {V : Type 0} (P R : V → V → Type 0) (old new : List V) → ((v w : V) → P v w → R v w) → Turned P old new → Turned R old new
turned_as P R old new to p v is = let one = p v is in (one.0, one.1, to v one.0 one.2)

pub turned_same : {V : Type 0} (R : V → V → Type 0) (old new : List V) → new ≡ old → ((v : V) → R v v) → Turned R old new
turned_same R old new same whole v is = (v, same ∙ is, whole v)

pub nothing : {X : Type 0} (xs : List X) → length xs ≡ 0 → xs ≡ []
nothing [] none = refl
nothing (x ∷ xs) none = absurd (omega (arith, none))

-- the numbers of the snapshots
number_by : (k : ℕ) (s : Kept) (ss : List Kept) (b : Bool) → map number_of (without_first k ss) ≡ without_number k (map number_of ss)
    → map number_of (cond b ss (s ∷ without_first k ss)) ≡ cond b (map number_of ss) (s.number ∷ without_number k (map number_of ss))
number_by k s ss true more = refl
number_by k s ss false more = ap (λ (ns : List ℕ). s.number ∷ ns) more

numbers_without : (k : ℕ) (held : List Kept) → map number_of (without_first k held) ≡ without_number k (map number_of held)
numbers_without k [] = refl
numbers_without k (s ∷ ss) = number_by k s ss (s.number == k) (numbers_without k ss)

module _ (o : Opening) where
  numbers_done : (told : List (Option Matches)) (c : Command) (r : Reply) (v w : Doing) → IsDone o told c r v w → map number_of w.kept ≡ numbers_after c (map number_of v.kept)
  numbers_done told (command.Take k) r v w done = ap (map number_of) done.kept
  numbers_done told (command.Read k reads) r v w done = ap (λ (x : Doing). map number_of x.kept) done.same
  numbers_done told (command.Release k) r v w done = ap (map number_of) done.kept ∙ numbers_without k v.kept
  numbers_done told command.Squash r v w done = ap (map number_of) done.kept
  numbers_done told (command.Send k reads) r v w done = ap (map number_of) done.kept ∙ numbers_without k v.kept
  numbers_done told c r v w done = ap (map number_of) done.kept

  -- Some commands of cs were answered by rs, and `rest` is left; what the desk knew at the start is v, and now it is w; what was told of the matchers is `told`, and of those that are left `now`
  pub record UnderWay (told now : List (Option Matches)) (cs rest : List Command) (rs : List Reply) (h : Held) (v w : Known) : Type 0 where
    pub can : can_answer_all (hands_of h) (map number_of h.kept) rest ≡ true
    pub enough : patterns_of rest ≤ length now
    pub onward : (others : List (Option Matches)) (more : List Reply) (e : Doing) → AreDone o (now ++ others) rest more (record { knows = w; kept = h.kept }) e → AreDone o (told ++ others) cs (rs ++ more) (record { knows = v; kept = [] }) e

  pub at_start : (told : List (Option Matches)) (cs : List Command) (h : Held) (hands : ℕ) (v : Known) → h.kept ≡ [] → h.spare ≡ hands → can_answer_all hands [] cs ≡ true → patterns_of cs ≤ length told → UnderWay told told cs cs [] h v v
  at_start told cs h hands v none spare can enough =
      let all : hands_of h ≡ hands = omega (arith, spare, ap length none) in record {
        can = rw (all, none) can;
        enough = enough;
        onward = λ others more e done. subst (λ ks. AreDone o (told ++ others) cs more (record { knows = v; kept = ks }) e) none done;
      }

  pub can_next : (told now : List (Option Matches)) (c : Command) (cs rest : List Command) (rs : List Reply) (h : Held) (v w : Known) → UnderWay told now cs (c ∷ rest) rs h v w → can_answer (hands_of h) (map number_of h.kept) c ≡ true
  can_next told now c cs rest rs h v w way = (and_parts (can_answer (hands_of h) (map number_of h.kept) c) (can_answer_all (hands_of h) (numbers_after c (map number_of h.kept)) rest) way.can).0

  pub one_more : (told now next : List (Option Matches)) (c : Command) (cs rest : List Command) (rs : List Reply) (r : Reply) (h k : Held) (v w x : Known) → UnderWay told now cs (c ∷ rest) rs h v w → IsAnswered o now next c r h.kept k.kept w x → hands_of k ≡ hands_of h
      → UnderWay told next cs rest (rs ++ r ∷ []) k v x
  one_more told now next c cs rest rs r h k v w x way answered hands =
      let numbers : map number_of k.kept ≡ numbers_after c (map number_of h.kept) = numbers_done (now ++ []) c r (record { knows = w; kept = h.kept }) (record { knows = x; kept = k.kept }) (answered []).0 in
      let left = (and_parts (can_answer (hands_of h) (map number_of h.kept) c) (can_answer_all (hands_of h) (numbers_after c (map number_of h.kept)) rest) way.can).1 in
      let fewer : length next ≡ length (drop (patterns_in c) now) = ap length (sym (append-nil next)) ∙ ap length (sym (answered []).1) ∙ ap (λ l. length (drop (patterns_in c) l)) (append-nil now) in record {
        can = rw (hands, numbers) left;
        enough = omega (arith, fewer, way.enough, sum_by-cons patterns_in c rest, length-drop (patterns_in c) now);
        onward = λ others more e done. subst (λ all. AreDone o (told ++ others) cs all (record { knows = v; kept = [] }) e) (sym (append_assoc rs (r ∷ []) more)) (way.onward others (r ∷ more) e
            (record { knows = x; kept = k.kept }, (answered others).0, subst (λ ts. AreDone o ts rest more (record { knows = x; kept = k.kept }) e) (sym (answered others).1) done));
      }

  pub at_end : (told now : List (Option Matches)) (cs : List Command) (rs : List Reply) (h : Held) (v w : Known) → UnderWay told now cs [] rs h v w → IsRun o told cs rs v w
  at_end told now cs rs h v w way others = (h.kept, subst (λ all. AreDone o (told ++ others) cs all (record { knows = v; kept = [] }) (record { knows = w; kept = h.kept })) (append-nil rs) (way.onward others [] (record { knows = w; kept = h.kept }) refl))

  -- ---- one command

  -- a numbered call reads no pattern
  plain_patterns : (c : Command) → is_plain c ≡ true → patterns_in c ≡ 0
  plain_patterns (command.Read k reads) plain = absurd (false≢true plain)
  plain_patterns (command.Send k reads) plain = absurd (false≢true plain)
  plain_patterns c plain = refl

  play_done : (told : List (Option Matches)) (c : Command) (r : Reply) (kept : List Kept) (v w : Known) → is_plain c ≡ true → Called o c r v w → IsDone o told c r (record { knows = v; kept = kept }) (record { knows = w; kept = kept })
  play_done told (command.Take k) r kept v w plain called = absurd (false≢true plain)
  play_done told (command.Read k reads) r kept v w plain called = absurd (false≢true plain)
  play_done told (command.Release k) r kept v w plain called = absurd (false≢true plain)
  play_done told command.Squash r kept v w plain called = absurd (false≢true plain)
  play_done told (command.Send k reads) r kept v w plain called = absurd (false≢true plain)
  play_done told c r kept v w plain called = record { plain = plain; called = called; kept = refl }

  pub play_answered : (told : List (Option Matches)) (c : Command) (r : Reply) (kept : List Kept) (old new : List Known) → is_plain c ≡ true → Turned (Called o c r) old new → Turned (IsAnswered o told told c r kept kept) old new
  play_answered told c r kept old new plain turned = turned_as (Called o c r) (IsAnswered o told told c r kept kept) old new (λ v w called others. (play_done (told ++ others) c r kept v w plain called, ap (λ n. drop n (told ++ others)) (plain_patterns c plain))) turned

  read_done : (told left : List (Option Matches)) (k : ℕ) (reads : List Read) (answers : List ReadAnswer) (kept : List Kept) (v : Known) → AreRight (kept_text k kept) told left reads answers
      → IsAnswered o told left (command.Read k reads) (reply.Answered answers) kept kept v v
  read_done told left k reads answers kept v all others = (
    record {
      answers = answers;
      tells = refl;
      forms = right_forms (kept_text k kept) told left reads answers all;
      right = right_asked (kept_text k kept) told left reads answers others all;
      same = refl;
    },
    right_left (kept_text k kept) told left reads answers others all,
  )

  send_done : (told left : List (Option Matches)) (k : ℕ) (reads : List Read) (answers : List ReadAnswer) (kept : List Kept) (v : Known) → AreRight (kept_text k kept) told left reads answers
      → IsAnswered o told left (command.Send k reads) (reply.Answered answers) kept (without_first k kept) v v
  send_done told left k reads answers kept v all others = (
    record {
      answers = answers;
      tells = refl;
      forms = right_forms (kept_text k kept) told left reads answers all;
      right = right_asked (kept_text k kept) told left reads answers others all;
      knows = refl;
      kept = refl;
    },
    right_left (kept_text k kept) told left reads answers others all,
  )

  -- a call that found no number
  pub spent_out : (why : Refusal) (old new : List Known) → Has IsDesk old → (why ≡ Spent → Turned (IsSpent o) old new) → why ≡ Spent → Has (IsOut o) new
  spent_out why old new has spent is = let one = spent is has.0 has.1 in (one.0, one.1, record { informed = one.2.stays.informed; none = one.2.none })

  pub read_answered : (told left : List (Option Matches)) (c : Command) (r : Reply) (k : ℕ) (reads lent : List Read) (answers : List ReadAnswer) (kept : List Kept) (views : List Known) → c ≡ command.Read k reads → lent ≡ reads → r ≡ reply.Answered answers
      → AreRight (kept_text k kept) told left lent answers → Turned (IsAnswered o told left c r kept kept) views views
  read_answered told left c r k reads lent answers kept views is same tells all =
      turned_same (IsAnswered o told left c r kept kept) views views refl
      (λ v. subst (λ x. IsAnswered o told left x r kept kept v v) (sym is) (subst (λ x. IsAnswered o told left (command.Read k reads) x kept kept v v) (sym tells)
      (read_done told left k reads answers kept v (subst (λ x. AreRight (kept_text k kept) told left x answers) same all))))

  pub send_answered : (told left : List (Option Matches)) (c : Command) (r : Reply) (k : ℕ) (reads lent : List Read) (answers : List ReadAnswer) (kept after : List Kept) (views : List Known) → c ≡ command.Send k reads → lent ≡ reads → r ≡ reply.Answered answers → after ≡ without_first k kept
      → AreRight (kept_text k kept) told left lent answers → Turned (IsAnswered o told left c r kept after) views views
  send_answered told left c r k reads lent answers kept after views is same tells less all =
      turned_same (IsAnswered o told left c r kept after) views views refl
      (λ v. subst (λ ks. IsAnswered o told left c r kept ks v v) (sym less) (subst (λ x. IsAnswered o told left x r kept (without_first k kept) v v) (sym is) (subst (λ x. IsAnswered o told left (command.Send k reads) x kept (without_first k kept) v v) (sym tells)
      (send_done told left k reads answers kept v (subst (λ x. AreRight (kept_text k kept) told left x answers) same all)))))

  pub take_answered : (told : List (Option Matches)) (c : Command) (k version : ℕ) (before after : List Kept) (old new : List Known) → c ≡ command.Take k → Turned (IsTakenAs o version k before after) old new → Turned (IsAnswered o told told c (reply.Taken version) before after) old new
  take_answered told c k version before after old new is turned =
      turned_as (IsTakenAs o version k before after) (IsAnswered o told told c (reply.Taken version) before after) old new
      (λ v w t. subst (λ x. IsAnswered o told told x (reply.Taken version) before after v w) (sym is)
      (λ others. (record { text = t.text; version = version; tells = refl; took = t.took; kept = t.kept }, refl))) turned

  pub release_answered : (told : List (Option Matches)) (c : Command) (k : ℕ) (before after : List Kept) (views : List Known) → c ≡ command.Release k → after ≡ without_first k before → Turned (IsAnswered o told told c reply.Nothing before after) views views
  release_answered told c k before after views is kept =
      turned_same (IsAnswered o told told c reply.Nothing before after) views views refl
      (λ v. subst (λ x. IsAnswered o told told x reply.Nothing before after v v) (sym is) (λ others. (record { tells = refl; knows = refl; kept = kept }, refl)))

  pub squash_answered : (told : List (Option Matches)) (c : Command) (s : Squash) (kept : List Kept) (old new : List Known) → c ≡ command.Squash → ((depth : ℕ) → s ≡ squash.Done depth → (depth ≤ 2) × Turned (IsEntered o (squashed depth)) old new) → Turned (IsAnswered o told told c reply.Nothing kept kept) old new
  squash_answered told c (squash.Done depth) kept old new is entered =
      turned_as (IsEntered o (squashed depth)) (IsAnswered o told told c reply.Nothing kept kept) old new
      (λ v w e. subst (λ x. IsAnswered o told told x reply.Nothing kept kept v w) (sym is) (λ others. (record { tells = refl; stays = e.stays; kept = refl }, refl))) (entered depth refl).1

  -- ---- a session under way, from the one view of its desk

  pub way_start : (told : List (Option Matches)) (cs rest : List Command) (rs : List Reply) (h : Held) (hands : ℕ) (views : List Known) → rest ≡ cs → rs ≡ [] → h.kept ≡ [] → h.spare ≡ hands → can_answer_all hands [] cs ≡ true → patterns_of cs ≤ length told → Turned (UnderWay told told cs rest rs h) views views
  way_start told cs rest rs h hands views same new none spare can enough = turned_same (UnderWay told told cs rest rs h) views views refl (λ v. subst (λ l. UnderWay told told cs rest l h v v) (sym new) (subst (λ x. UnderWay told told cs x [] h v v) (sym same) (at_start told cs h hands v none spare can enough)))

  pub way_can : (told now : List (Option Matches)) (cs rest left : List Command) (c : Command) (rs : List Reply) (h : Held) (old mid : List Known) → rest ≡ c ∷ left → Has IsDesk old → Turned (UnderWay told now cs rest rs h) old mid → can_answer (hands_of h) (map number_of h.kept) c ≡ true
  way_can told now cs rest left c rs h old mid is has turned = let one = turned has.0 has.1 in can_next told now c cs left rs h has.0 one.0 (subst (λ x. UnderWay told now cs x rs h has.0 one.0) is one.2)

  pub way_enough : (told now : List (Option Matches)) (cs rest left : List Command) (c : Command) (rs : List Reply) (h : Held) (old mid : List Known) → rest ≡ c ∷ left → Has IsDesk old → Turned (UnderWay told now cs rest rs h) old mid → patterns_in c ≤ length now
  way_enough told now cs rest left c rs h old mid is has turned = let one = turned has.0 has.1 in let enough : patterns_of (c ∷ left) ≤ length now = subst (λ x. patterns_of x ≤ length now) is one.2.enough in omega (arith, enough, sum_by-cons patterns_in c left)

  pub way_next : (told now next : List (Option Matches)) (cs rest left : List Command) (c : Command) (rs more : List Reply) (r : Reply) (h k : Held) (old mid new : List Known) → rest ≡ c ∷ left → more ≡ rs ++ r ∷ [] → hands_of k ≡ hands_of h
      → Turned (UnderWay told now cs rest rs h) old mid → Turned (IsAnswered o now next c r h.kept k.kept) mid new → Turned (UnderWay told next cs left more k) old new
  way_next told now next cs rest left c rs more r h k old mid new is all hands way answered =
      turned_then (UnderWay told now cs rest rs h) (IsAnswered o now next c r h.kept k.kept) (UnderWay told next cs left more k) old mid new
      (λ v w x u a. subst (λ l. UnderWay told next cs left l k v x) (sym all) (one_more told now next c cs left rs r h k v w x (subst (λ l. UnderWay told now cs l rs h v w) is u) a hands)) way answered

  pub way_end : (told now : List (Option Matches)) (cs rest : List Command) (rs : List Reply) (h : Held) (old new : List Known) → length rest ≡ 0 → Turned (UnderWay told now cs rest rs h) old new → Turned (IsRun o told cs rs) old new
  way_end told now cs rest rs h old new none way = turned_as (UnderWay told now cs rest rs h) (IsRun o told cs rs) old new (λ v w u. at_end told now cs rs h v w (subst (λ l. UnderWay told now cs l rs h v w) (nothing rest none) u)) way
