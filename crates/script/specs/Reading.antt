-- What a function that reads a part of a JSON value answers, and what a reader counts.
use Rattle.std.specs.Prelude.{◌≡◌, ◌≤◌, ◌==◌, ◌&&◌, ◌||◌, not, nat_lt, ℕ, List, [], ◌∷◌, length, Bool, true, false, if◌then◌else◌, Option, Some, None, is_some, option_map, unwrap_or, Result, Ok, Err, codes}
use Rattle.points.specs.Text.{utf16_of}
use Rattle.points.specs.declared.limits.TheConstants.{MAX_UNITS}
use Rattle.machine.specs.declared.command.Command.{Command}
use Rattle.machine.specs.declared.command.Opening.{Opening}
use Rattle.machine.specs.declared.command.Script.{Script}
use Rattle.script.specs.declared.before.Before.{Before}
use Rattle.script.specs.declared.before.CommandFault.{CommandFault}
use Rattle.script.specs.declared.before.CommandFault.TheVariants as fault
use Rattle.script.specs.declared.limits.TheConstants.{MAX_COMMANDS, MAX_READINGS, MAX_SAVES, MAX_FINDS, MAX_WATCHES, MAX_ID}
use Rattle.script.specs.declared.parts.Misfit.{Misfit}
use Rattle.script.specs.declared.parts.Misfit.TheVariants.{Shape, NoMemory}
use Rattle.script.specs.declared.refusal.ScriptRule.{ScriptRule}
use Rattle.script.specs.declared.refusal.ScriptRule.TheVariants.{BadShape, TooMany, BadNumber, BadEncoding, BadName}
use Rattle.script.specs.Parts.{items_in, member_count, string_in}
use Rattle.script.specs.Rows as kind
use Rattle.script.specs.Rules as rules
use Rattle.script.specs.Rules.{at_start, next, reads_in, is_save, snapshot_in, any_item, read_breaks, field_breaks, wrong_kind, wrong_encoding, wrong_name, opening_breaks, command_tests, first_broken}
use Rattle.script.specs.ScriptDocument.{read_of, command_of}
use Rattle.serde_json.specs.Data.{Data}
use Rattle.serde_json.specs.Find.{get, as_array}

-- the part isn't there, or memory ran out
abbrev pub Fails : {X : Type 0} → Misfit → Option X → Type 0
Fails Shape part = part ≡ None
Fails NoMemory part = Unit {0}

-- the answer, seen by `seen`, is this part, unless memory ran out
abbrev pub Gives : {X Y : Type 0} → (X → Y) → Result X Misfit → Option Y → Type 0
Gives seen (Ok x) part = part ≡ Some (seen x)
Gives seen (Err misfit) part = Fails misfit part

-- what the rules ask for of what was counted: there was no session before
abbrev pub counted : Before → rules.Before
counted b = record at_start { commands = b.commands; reading = b.readings; marks = b.finds; watches = b.watches; names = b.names.items; peak = b.peak; live = b.live }

-- within the limits
pub record IsFew (b : Before) : Type 0 where
  pub commands : b.commands ≤ MAX_COMMANDS
  pub readings : b.readings ≤ MAX_READINGS
  pub finds : b.finds ≤ MAX_FINDS
  pub watches : b.watches ≤ MAX_WATCHES
  pub saves : length b.names.items ≤ MAX_SAVES

-- the member `reads` is no list, or one of its reads is broken
abbrev pub reads_break : Option Data → Bool
reads_break None = true
reads_break (Some d) = not (is_some (as_array d)) || any_item (read_breaks wrong_kind true) (items_in d)

-- the members of a command that reads a snapshot are broken, or one of its reads is
abbrev pub read_members_break : Data → Bool
read_members_break d = not (member_count d == 3) || (field_breaks wrong_kind true (kind.whole MAX_ID) (get (codes "snapshot") d) || reads_break (get (codes "reads") d))

-- a save that isn't read, as its encoding is another string than the four; or another read, as a number of it is wrong
abbrev pub is_unread : Bool → Data → Bool
is_unread save d = (if save then is_save d else not (is_save d)) && not (is_some (read_of d))

-- The rule that a command breaks whose members have the right kinds and that isn't read: its numbers are looked at before its encodings.
abbrev pub unread_rule : Data → ScriptRule
unread_rule d = if any_item (is_unread true) (reads_in d) && (is_some (snapshot_in d) && not (any_item (is_unread false) (reads_in d))) then BadEncoding else BadNumber

-- a command that breaks no rule was read, and counted
pub record IsRead (old new : Before) (d : Data) (c : Command) : Type 0 where
  pub kept : first_broken (command_tests false (counted old) d) ≡ None
  pub is : command_of d ≡ Some c
  pub after : counted new ≡ next (counted old) d

-- a command isn't taken: this is the rule that it breaks, or memory ran out
abbrev pub FaultIs : Option ScriptRule → CommandFault → Type 0
FaultIs broken (fault.Breaks why) = broken ≡ Some why
FaultIs broken fault.NoMemory = Unit {0}

-- the script of one session that opens so
abbrev pub one_session : Opening → List Command → Script
one_session o commands = record { version = 1; opening = o; sessions = commands ∷ [] }

-- the units of an opening that is a text
abbrev pub opened_units : Data → List ℕ
opened_units o = unwrap_or (option_map utf16_of (string_in (codes "text") o)) []

-- what the opening breaks, in the order of the rules
abbrev pub opening_tests : Data → List (Bool × ScriptRule)
opening_tests o =
    (opening_breaks wrong_kind true (Some o), BadShape)
    ∷ (nat_lt MAX_UNITS (length (opened_units o)), TooMany)
    ∷ (opening_breaks wrong_encoding false (Some o), BadEncoding)
    ∷ (opening_breaks wrong_name false (Some o), BadName)
    ∷ []
