-- The laws of made scripts.
use Rattle.std.specs.Prelude.{◌≡◌, ℕ, ◌≤◌, []}
use Rattle.std.specs.List.{AllByRecursion}
use Rattle.machine.specs.Lawful.{patterns_of}
use Rattle.script.specs.Limits.{IsWithinLimits, saved_names}
use Rattle.generator.specs.Generator.{made_script}

-- a made script of one session is one that is read: it keeps all limits, and its snapshots are in turn
abbrev pub MadeScriptIsWithinLimits : Type 0
MadeScriptIsWithinLimits = (first edits : ℕ) → edits ≤ 4096 → IsWithinLimits (made_script first edits 1)

-- it reads no pattern
abbrev pub MadeScriptHasNoPatterns : Type 0
MadeScriptHasNoPatterns = (first edits : ℕ) → AllByRecursion (λ cs. patterns_of cs ≡ 0) (made_script first edits 1).sessions

-- it saves nothing
abbrev pub MadeScriptHasNoSaves : Type 0
MadeScriptHasNoSaves = (first edits : ℕ) → AllByRecursion (λ cs. saved_names cs ≡ []) (made_script first edits 1).sessions
