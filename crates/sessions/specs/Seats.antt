-- Sessions that run in threads of their own, each from its desk.
use Rattle.std.specs.Prelude.{◌≡◌, ℕ, ◌+◌, ◌≤◌, List, [], ◌∷◌, ◌++◌, length, map, true, Option, MatchOption, MatchResult, vec_len}
use mathlib.Core.List.{IsPrefix}
use Rattle.atomic_table.specs.declared.badge.Badge.{Badge}
use Rattle.points.specs.Text.{text_of}
use Rattle.machine.specs.declared.command.Command.{Command}
use Rattle.machine.specs.declared.command.Script.{Script}
use Rattle.machine.specs.declared.reply.Reply.{Reply}
use Rattle.machine.specs.declared.reply.Transcript.{Transcript}
use Rattle.machine.specs.Machine.{State, opened}
use Rattle.machine.specs.Answers.{Matches}
use Rattle.machine.specs.Lawful.{IsLawful, patterns_of}
use Rattle.turn_table.specs.declared.view.Part.{Part}
use Rattle.turn_table.specs.Calls.{Has, Turned}
use Rattle.turn_table.specs.Openings.{new_desk}
use Rattle.turn_table.specs.Views.{desk}
use Rattle.shared_buffer.specs.Entries.{Entry}
use Rattle.shared_buffer.specs.Tokens.{Line, Known, Opening, IsDeskOf, IsInformed}
use Rattle.sessions.specs.declared.plan.Plan.{Plan}
use Rattle.sessions.specs.declared.refusal.RunRefusal.TheVariants.{Spent}
use Rattle.sessions.specs.declared.seat.Seat.{Seat}
use Rattle.sessions.specs.Rules.{can_answer_all}
use Rattle.sessions.specs.Running.{IsOut, IsRun}

-- what a session is to do: its commands, and the hits that are told of its patterns
pub record Work : Type 0 where
  pub told : List (Option Matches)
  pub commands : List Command

abbrev pub commands_of : Work → List Command
commands_of w = w.commands

-- one entry for each pattern
abbrev pub TellsEach : Work → Type 0
TellsEach w = length w.told ≡ patterns_of w.commands

-- what is told of the patterns of all sessions, in their order
abbrev pub all_told : List Work → List (Option Matches)
all_told [] = []
all_told (w ∷ ws) = w.told ++ all_told ws

module _ {M : Type 0} where
  -- all hands that these plans want
  abbrev pub hands_wanted : List (Plan M) → ℕ
  hands_wanted [] = 0
  hands_wanted (p ∷ ps) = p.hands + hands_wanted ps

  -- the hands suffice for the commands of a plan, and there is one matcher for each pattern
  pub record CanBeAnswered (p : Plan M) : Type 0 where
    pub hands : can_answer_all p.hands [] p.commands.items ≡ true
    pub matchers : length p.matchers.items ≡ patterns_of p.commands.items

  -- the seat is for this plan, at this desk
  pub record IsSeated (p : Plan M) (d : Badge Known) (s : Seat M) : Type 0 where
    pub desk : s.desk ≡ d
    pub commands : s.commands ≡ p.commands
    pub matchers : s.matchers ≡ p.matchers
    pub hands : vec_len s.hands ≡ p.hands

  abbrev pub AreSeated : List (Plan M) → List (Badge Known) → List (Seat M) → Type 0
  AreSeated [] [] [] = Unit {0}
  AreSeated (p ∷ ps) (d ∷ ds) (s ∷ ss) = IsSeated p d s × AreSeated ps ds ss
  AreSeated ps ds ss = ⊥

module _ {M : Type 0} (tells : M → Option Matches) where
  abbrev pub work_of : Plan M → Work
  work_of p = record { told = map tells p.matchers.items; commands = p.commands.items }

  module _ (o : Opening) where
    -- the session of a seat can run: its desk is one of the buffer's, and its hands and matchers suffice
    pub record CanRun (s : Seat M) : Type 0 where
      pub desk : IsDeskOf o s.desk
      pub hands : can_answer_all (vec_len s.hands) [] s.commands.items ≡ true
      pub matchers : patterns_of s.commands.items ≤ vec_len s.matchers

    -- the desk is the new one with the number n, and this is to be done
    pub record IsReady (n : ℕ) (w : Work) (s : Seat M) : Type 0 where
      pub views : s.desk.views ≡ new_desk n ∷ []
      pub commands : s.commands.items ≡ w.commands
      pub matchers : map tells s.matchers.items ≡ w.told

    abbrev pub AreReady : ℕ → List Work → List (Seat M) → Type 0
    AreReady n [] [] = Unit {0}
    AreReady n [] (s ∷ ss) = ⊥
    AreReady n (w ∷ ws) [] = ⊥
    AreReady n (w ∷ ws) (s ∷ ss) = IsReady n w s × AreReady (n + 1) ws ss

    -- the session was run and has its replies, or the reason why it has none
    pub record HasEnded (s : Seat M) : Type 0 where
      pub desk : IsDeskOf o s.desk
      pub ended : MatchOption s.ended ⊥ (λ e. MatchResult e (λ rs. Unit {0}) (λ no. no ≡ Spent → Has (IsOut o) s.desk.views))

    -- so, and this is how the seat was before
    pub record WasRun (before after : Seat M) : Type 0 where
      pub ended : HasEnded after
      pub run : MatchOption after.ended ⊥ (λ e. MatchResult e (λ rs. Turned (IsRun o (map tells before.matchers.items) before.commands.items rs.items) before.desk.views after.desk.views) (λ no. Unit {0}))

    -- this was done from the new desk with the number n, where the session has replies
    abbrev pub HasRun : ℕ → Work → Seat M → Type 0
    HasRun n w s = MatchOption s.ended ⊥ (λ e. MatchResult e (λ rs. (v : Known) × (s.desk.views ≡ v ∷ []) × IsRun o w.told w.commands rs.items (new_desk n) v) (λ no. Unit {0}))

    abbrev pub HaveRun : ℕ → List Work → List (Seat M) → Type 0
    HaveRun n [] [] = Unit {0}
    HaveRun n [] (s ∷ ss) = ⊥
    HaveRun n (w ∷ ws) [] = ⊥
    HaveRun n (w ∷ ws) (s ∷ ss) = HasRun n w s × HaveRun (n + 1) ws ss

module _ (o : Opening) where
  -- this was done from the new desk with the number n, with these replies; what the session saw is the beginning of this history, and its own calls are those of the part
  pub record Went (n : ℕ) (w : Work) (rs : List Reply) (p : Part Entry) (h : List Line) : Type 0 where
    pub last : Known
    pub run : IsRun o w.told w.commands rs (new_desk n) last
    pub role : last.role ≡ desk (p ∷ [])
    pub seen : IsPrefix last.seen h

  -- so of each session, from the desk n on
  abbrev pub AllWent : ℕ → List Work → List (List Reply) → List (Part Entry) → List Line → Type 0
  AllWent n [] [] [] h = Unit {0}
  AllWent n (w ∷ ws) (rs ∷ rss) (p ∷ ps) h = Went n w rs p h × AllWent (n + 1) ws rss ps h
  AllWent n ws rss ps h = ⊥

  -- a desk that all others were ended into: it stands for each, and has seen what each saw
  pub record IsGatheredIn (ws : List Work) (rss : List (List Reply)) (v : Known) : Type 0 where
    pub parts : List (Part Entry)
    pub role : v.role ≡ desk parts
    pub went : AllWent 0 ws rss parts v.seen
    pub informed : IsInformed o v

-- What sessions with this work did with a buffer that began at this state and replies in the form of this version: every transcript that has their replies and this end is lawful
abbrev pub IsLawfulRun : ℕ → State → List Work → List (List Reply) → List ℕ → ℕ → Type 0
IsLawfulRun version start ws replies text count = (script : Script) (opening : List ℕ) (t : Transcript) → start ≡ opened opening → version ≡ script.version → script.sessions ≡ map commands_of ws
    → t.version ≡ script.version → t.sessions ≡ replies → t.end.count ≡ count → t.end.text ≡ text_of text → IsLawful script opening (all_told ws) t

-- A buffer that began at this state, with so many desks, ran out of numbers: a history that leaves none is known to one of its desks
pub record RanOut (version : ℕ) (start : State) (desks : ℕ) : Type 0 where
  pub opening : Opening
  pub replies_as : opening.version ≡ version
  pub starts : opening.start.plain ≡ start
  pub callers : opening.desks ≡ desks
  pub knows : Known
  pub out : IsOut opening knows
