-- A transcript that is lawful by the hits that were found is lawful by those that are told, with which they agree.
use Rattle.std.proofs.Common.{ℕ, zero, suc, ◌+◌, List, [], ◌∷◌, ◌++◌, map, drop, Bool, true, false, cond, Option, Some, None, subst}
use Rattle.std.specs.List.{AllByRecursion}
use Rattle.machine.specs.declared.command.Command.{Command}
use Rattle.machine.specs.declared.command.Command.TheVariants as command
use Rattle.machine.specs.declared.command.Script.{Script}
use Rattle.machine.specs.declared.reads.Read.{Read}
use Rattle.machine.specs.declared.reads.Read.TheVariants as read
use Rattle.machine.specs.declared.reads.ReadAnswer.{ReadAnswer}
use Rattle.machine.specs.declared.reply.Reply.{Reply}
use Rattle.machine.specs.declared.reply.Reply.TheVariants as reply
use Rattle.machine.specs.declared.reply.Transcript.{Transcript}
use Rattle.machine.specs.Machine.{State, opened}
use Rattle.machine.specs.Answers.{Matches, read_answer, number_of}
use Rattle.machine.specs.Lawful.{is_pattern, next_told, told_after, AnswersAs, IsAsked, asked_in, asked_of, reads_of, ends, answers_in, patterns_in, patterns_of, Entry, entries, state_after, with_number, Taking, with_taking, takings, all_takings, IsTakingLawful, IsLawful}
use Rattle.machine.proofs.OneSession.{all-append, all-map}
use Rattle.machine.proofs.OnlyPlain.{all-left, all-right}
use Rattle.buffer_cli.specs.Hits.{AgreesWith, Agree}

agree-drop : (n : ℕ) (told found : List (Option Matches)) → Agree told found → Agree (drop n told) (drop n found)
agree-drop zero told found h = h
agree-drop (suc n) [] [] h = tt
agree-drop (suc n) [] (f ∷ found) h = absurd h
agree-drop (suc n) (m ∷ told) [] h = absurd h
agree-drop (suc n) (m ∷ told) (f ∷ found) h = agree-drop n told found h.1

agree_next : (told found : List (Option Matches)) → Agree told found → AgreesWith (next_told told) (next_told found)
agree_next [] [] h = tt
agree_next [] (f ∷ found) h = absurd h
agree_next (m ∷ told) [] h = absurd h
agree_next (m ∷ told) (f ∷ found) h = h.0

agree_by : (b : Bool) (told found : List (Option Matches)) → Agree told found → Agree (cond b (drop 1 told) told) (cond b (drop 1 found) found)
agree_by true told found h = agree-drop 1 told found h
agree_by false told found h = h

-- ---- answers

answer_by : (t : List ℕ) (told found : Option Matches) (r : Read) (a : ReadAnswer) → AgreesWith told found → AnswersAs (read_answer t found r) a → AnswersAs (read_answer t told r) a
answer_by t None found (read.Pattern pattern limit) a agree h = tt
answer_by t (Some hits) found (read.Pattern pattern limit) a agree h = subst (λ (o : Option Matches). AnswersAs (read_answer t o (read.Pattern pattern limit)) a) agree h
answer_by t told found read.Size a agree h = h
answer_by t told found (read.Text range limit) a agree h = h
answer_by t told found (read.Find needle limit) a agree h = h
answer_by t told found (read.Save name encoding) a agree h = h

asked_by : (t : List ℕ) (told found : List (Option Matches)) (rs : List Read) (answers : List ReadAnswer) → Agree told found → AllByRecursion (IsAsked t) (asked_in found rs answers) → AllByRecursion (IsAsked t) (asked_in told rs answers)
asked_by t told found [] answers agree h = tt
asked_by t told found (r ∷ rs) [] agree h = tt
asked_by t told found (r ∷ rs) (a ∷ rest) agree h =
    (answer_by t (next_told told) (next_told found) r a (agree_next told found agree) h.0, asked_by t (told_after r told) (told_after r found) rs rest (agree_by (is_pattern r) told found agree) h.1)

rest_by : {X : Type 0} (P : X → Type 0) (b : Bool) (xs ys : List X) → (AllByRecursion P xs → AllByRecursion P ys) → AllByRecursion P (cond b [] xs) → AllByRecursion P (cond b [] ys)
rest_by P true xs ys more h = tt
rest_by P false xs ys more h = more h

through_by : (t : List ℕ) (k : ℕ) (told found : List (Option Matches)) (cs : List Command) (rs : List Reply) → Agree told found → AllByRecursion (IsAsked t) (asked_of k found cs rs) → AllByRecursion (IsAsked t) (asked_of k told cs rs)
through_by t k told found [] rs agree h = tt
through_by t k told found (c ∷ cs) [] agree h = tt
through_by t k told found (c ∷ cs) (r ∷ rs) agree h =
    let n : ℕ = patterns_in c in
    let first = asked_in found (reads_of k c) (answers_in r) in
    let rest = cond (ends k c) [] (asked_of k (drop n found) cs rs) in
    all-append (IsAsked t) (asked_in told (reads_of k c) (answers_in r)) (cond (ends k c) [] (asked_of k (drop n told) cs rs)) (asked_by t told found (reads_of k c) (answers_in r) agree (all-left (IsAsked t) first rest h))
    (rest_by (IsAsked t) (ends k c) (asked_of k (drop n found) cs rs) (asked_of k (drop n told) cs rs) (through_by t k (drop n told) (drop n found) cs rs (agree-drop n told found agree)) (all-right (IsAsked t) first rest h))

-- ---- takes

module _ (s : State) (es : List Entry) where
  taking_by : (told found : List (Option Matches)) (i : ℕ) (earlier : List ℕ) (c : Command) (r : Reply) (cs : List Command) (rs : List Reply) (mine others : List Taking) → Agree told found
      → (AllByRecursion (IsTakingLawful s es) others → AllByRecursion (IsTakingLawful s es) mine)
      → AllByRecursion (IsTakingLawful s es) (with_taking c r i earlier found cs rs others) → AllByRecursion (IsTakingLawful s es) (with_taking c r i earlier told cs rs mine)
  taking_by told found i earlier (command.Take k) (reply.Taken v) cs rs mine others agree more h = (
    record { shown = h.0.shown; fresh = h.0.fresh; below = h.0.below; answers = through_by (state_after s es v).text k told found cs rs agree h.0.answers },
    more h.1,
  )
  taking_by told found i earlier (command.Take k) r cs rs mine others agree more h = more h
  taking_by told found i earlier c r cs rs mine others agree more h = more h

  takings_by : (told found : List (Option Matches)) (i : ℕ) (earlier : List ℕ) (cs : List Command) (rs : List Reply) → Agree told found
      → AllByRecursion (IsTakingLawful s es) (takings found i earlier cs rs) → AllByRecursion (IsTakingLawful s es) (takings told i earlier cs rs)
  takings_by told found i earlier [] rs agree h = tt
  takings_by told found i earlier (c ∷ cs) [] agree h = tt
  takings_by told found i earlier (c ∷ cs) (r ∷ rs) agree h =
      let left = drop (patterns_in c) told in
      let more = drop (patterns_in c) found in
      let agrees = agree-drop (patterns_in c) told found agree in
      taking_by left more i earlier c r cs rs (takings left (i + 1) (earlier ++ with_number (number_of r) []) cs rs) (takings more (i + 1) (earlier ++ with_number (number_of r) []) cs rs) agrees
      (takings_by left more (i + 1) (earlier ++ with_number (number_of r) []) cs rs agrees) h

  unmapped : (k : ℕ) (ts : List Taking) → AllByRecursion (λ (x : ℕ × Taking). IsTakingLawful s es x.1) (map (λ (t : Taking). (k, t)) ts) → AllByRecursion (IsTakingLawful s es) ts
  unmapped k [] h = tt
  unmapped k (t ∷ ts) h = (h.0, unmapped k ts h.1)

  all_by : (told found : List (Option Matches)) (k : ℕ) (sessions : List (List Command)) (replies : List (List Reply)) → Agree told found
      → AllByRecursion (λ (x : ℕ × Taking). IsTakingLawful s es x.1) (all_takings found k sessions replies) → AllByRecursion (λ (x : ℕ × Taking). IsTakingLawful s es x.1) (all_takings told k sessions replies)
  all_by told found k [] replies agree h = tt
  all_by told found k (cs ∷ others) [] agree h = tt
  all_by told found k (cs ∷ others) (rs ∷ rest) agree h =
      let P : ℕ × Taking → Type 0 = λ x. IsTakingLawful s es x.1 in
      let first = map (λ (t : Taking). (k, t)) (takings found 1 [] cs rs) in
      let more = all_takings (drop (patterns_of cs) found) (k + 1) others rest in
      all-append P (map (λ (t : Taking). (k, t)) (takings told 1 [] cs rs)) (all_takings (drop (patterns_of cs) told) (k + 1) others rest)
      (all-map P (λ (t : Taking). (k, t)) (takings told 1 [] cs rs) (takings_by told found 1 [] cs rs agree (unmapped k (takings found 1 [] cs rs) (all-left P first more h))))
      (all_by (drop (patterns_of cs) told) (drop (patterns_of cs) found) (k + 1) others rest (agree-drop (patterns_of cs) told found agree) (all-right P first more h))

pub lawful_by : (script : Script) (opening : List ℕ) (told found : List (Option Matches)) (t : Transcript) → Agree told found → IsLawful script opening found t → IsLawful script opening told t
lawful_by script opening told found t agree h =
    record { form = h.form; call = h.call; snapshot = all_by (opened opening) (entries script.sessions t.sessions) told found 1 script.sessions t.sessions agree h.snapshot; end = h.end }
