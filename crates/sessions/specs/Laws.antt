-- The law of sessions that share a buffer.
use Rattle.std.specs.Prelude.{◌≡◌, ℕ, ◌<◌, ◌++◌, List, Option}
use mathlib.Core.List.{IsPrefix}
use Rattle.machine.specs.declared.command.Command.{Command}
use Rattle.machine.specs.declared.command.Script.{Script}
use Rattle.machine.specs.declared.reply.Reply.{Reply}
use Rattle.machine.specs.declared.reply.Transcript.{Transcript}
use Rattle.machine.specs.Answers.{Matches}
use Rattle.machine.specs.Lawful.{IsLawful}
use Rattle.turn_table.specs.History.{calls_under}
use Rattle.turn_table.specs.Openings.{new_desk}
use Rattle.shared_buffer.specs.Tokens.{Line, Known, Opening, rules}
use Rattle.sessions.specs.Gathered.{IsPlayed, IsGathered}
use Rattle.sessions.specs.Running.{IsRun}

-- whatever the order in which the sessions' calls came, a transcript that gathers them is lawful
abbrev pub GatheredIsLawful : Type 0
GatheredIsLawful = (o : Opening) (script : Script) (opening : List ℕ) (told : List (Option Matches)) (h : List Line) (t : Transcript) → IsGathered o script opening told h t → IsLawful script opening told t

-- a session that was run from the desk n is played in each history that goes on from what its desk has seen, with no further call of that desk
abbrev pub RunIsPlayed : Type 0
RunIsPlayed = (o : Opening) (n : ℕ) (told : List (Option Matches)) (cs : List Command) (rs : List Reply) (w : Known) (more : List (Option Matches)) (h : List Line) → n < o.desks → IsRun o told cs rs (new_desk n) w
    → IsPrefix w.seen h → calls_under (rules o) n h ≡ calls_under (rules o) n w.seen → IsPlayed o (told ++ more) n cs rs h
