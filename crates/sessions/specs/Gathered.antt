-- What the sessions of a script leave in the history of the buffer that they share.
use Rattle.std.specs.Prelude.{◌≡◌, ℕ, ◌+◌, List, [], ◌∷◌, length, map, drop, true, Option, None, Some}
use Rattle.std.specs.List.{AllByRecursion}
use mathlib.Core.List.{IsPrefix}
use Rattle.points.specs.Text.{text_of}
use Rattle.machine.specs.declared.command.Command.{Command}
use Rattle.machine.specs.declared.command.Script.{Script}
use Rattle.machine.specs.declared.reply.Reply.{Reply}
use Rattle.machine.specs.declared.reply.Transcript.{Transcript}
use Rattle.machine.specs.Machine.{Call, opened}
use Rattle.machine.specs.Answers.{Matches, call_of, number_of}
use Rattle.machine.specs.Lawful.{have_forms, with_entry, IsAsked, Taking, takings, patterns_of}
use Rattle.machine.specs.Lawful as lawful
use Rattle.machine.specs.Histories.{number_in}
use Rattle.turn_table.specs.History.{calls_under, AreCalled}
use Rattle.shared_buffer.specs.Entries.{Entry, called, handed, given_back, taken, finished, squashed, shaped}
use Rattle.shared_buffer.specs.Tokens.{Line, Opening, rules, IsHistory, behind}

-- a call of the history as a transcript has it: with its number and its reply
abbrev pub with_told : Entry → List lawful.Entry → List lawful.Entry
with_told (called c None) es = es
with_told (called c (Some r)) es = with_entry (call_of c) (number_of r) r es
with_told (handed n) es = es
with_told (given_back n) es = es
with_told (taken text version) es = es
with_told (finished text count) es = es
with_told (squashed depth) es = es
with_told (shaped sizes) es = es

-- so of a list of calls
abbrev pub written : List Line → List lawful.Entry
written [] = []
written (e ∷ es) = with_told e.told (written es)

-- the numbered commands of a session with their replies, as the history has them
abbrev pub with_called : Option Call → Command → Reply → List Entry → List Entry
with_called None c r es = es
with_called (Some call) c r es = called c (Some r) ∷ es

abbrev pub calls_answered : List Command → List Reply → List Entry
calls_answered [] rs = []
calls_answered (c ∷ cs) [] = []
calls_answered (c ∷ cs) (r ∷ rs) = with_called (call_of c) c r (calls_answered cs rs)

abbrev pub told_of : Line → Entry
told_of e = e.told

module _ (o : Opening) where
  -- A take by the desk n has a front: a beginning of the history, whose text and version it shows. The desk's own calls in it
  -- are those before the take
  pub record HasFront (n : ℕ) (h : List Line) (t : Taking) : Type 0 where
    pub front : List Line
    pub begun : IsPrefix front h
    pub earlier : map number_in (written (calls_under (rules o) n front)) ≡ t.earlier
    pub shown : t.version ≡ (behind o front).plain.version
    pub answers : AllByRecursion (IsAsked (behind o front).plain.text) t.asked

  -- The desk n played the commands of a session: each command has a reply of its form, the desk's calls are the session's
  -- numbered commands with their replies, in their order, and each take has a front
  pub record IsPlayed (told : List (Option Matches)) (n : ℕ) (cs : List Command) (rs : List Reply) (h : List Line) : Type 0 where
    pub forms : have_forms o.version cs rs ≡ true
    pub calls : map told_of (calls_under (rules o) n h) ≡ calls_answered cs rs
    pub fronts : AllByRecursion (HasFront n h) (takings told 1 [] cs rs)

  -- so of each session, by the desks from n on
  abbrev pub ArePlayed : List (Option Matches) → ℕ → List (List Command) → List (List Reply) → List Line → Type 0
  ArePlayed told n [] [] h = Unit {0}
  ArePlayed told n [] (rs ∷ rest) h = ⊥
  ArePlayed told n (cs ∷ others) [] h = ⊥
  ArePlayed told n (cs ∷ others) (rs ∷ rest) h = IsPlayed told n cs rs h × ArePlayed (drop (patterns_of cs) told) (n + 1) others rest h

  -- A transcript that gathers what the sessions of a script did with a buffer that opened with this text: they made all the numbered calls of its
  -- history, and the end is that of the history
  pub record IsGathered (script : Script) (opening : List ℕ) (told : List (Option Matches)) (h : List Line) (t : Transcript) : Type 0 where
    pub opens : o.start.plain ≡ opened opening
    pub replies_as : o.version ≡ script.version
    pub history : IsHistory o h
    pub callers : AreCalled (rules o) (length script.sessions) h
    pub played : ArePlayed told 0 script.sessions t.sessions h
    pub version : t.version ≡ script.version
    pub count : t.end.count ≡ (behind o h).plain.count
    pub text : t.end.text ≡ text_of (behind o h).plain.text
