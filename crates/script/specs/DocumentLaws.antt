-- The laws of the two documents.
use Rattle.std.specs.Prelude.{◌≡◌, ◌↔◌, ◌<◌, ◌^◌, ℕ, List, true, Some}
use Rattle.machine.specs.declared.command.Script.{Script}
use Rattle.machine.specs.declared.reply.Transcript.{Transcript}
use Rattle.script.specs.ScriptDocument.{script_of, script_in, document}
use Rattle.script.specs.ScriptValue.{script_value, BreaksNoRule, is_built}
use Rattle.script.specs.TranscriptDocument.{transcript_value, transcript_text}
use Rattle.serde_json.specs.Data.{Data, null, boolean, number, string, array, object, unsigned, negative, float, Items, no_items, item, Members, no_members, member}

-- a script of what is built that breaks no rule is read from its JSON value
abbrev pub ValueIsRead : Type 0
ValueIsRead = (s : Script) → is_built s ≡ true → BreaksNoRule s → script_of (script_value s) ≡ Some s

-- Bytes are a script exactly where they are UTF-8 whose JSON value is that script's, it is of what is built, and it breaks no rule.
abbrev pub BytesAreTheirScript : Type 0
BytesAreTheirScript = (bytes : List ℕ) (s : Script) → (script_in bytes ≡ Some s) ↔ ((document bytes ≡ Some (script_value s)) × (is_built s ≡ true) × BreaksNoRule s)

-- different transcripts have different JSON values
abbrev pub ValuesTellTranscripts : Type 0
ValuesTellTranscripts = (t u : Transcript) → transcript_value t ≡ transcript_value u → t ≡ u

-- each number within is a whole number of 64 bits, as every number of a transcript is
abbrev mutual
  pub IsWhole : Data → Type 0
  IsWhole null = Unit {0}
  IsWhole (boolean b) = Unit {0}
  IsWhole (number (unsigned n)) = n < 2 ^ 64
  IsWhole (number (negative z)) = ⊥
  IsWhole (number (float x)) = ⊥
  IsWhole (string s) = Unit {0}
  IsWhole (array ds) = ItemsAreWhole ds
  IsWhole (object ms) = MembersAreWhole ms

  pub ItemsAreWhole : Items → Type 0
  ItemsAreWhole no_items = Unit {0}
  ItemsAreWhole (item d ds) = IsWhole d × ItemsAreWhole ds

  pub MembersAreWhole : Members → Type 0
  MembersAreWhole no_members = Unit {0}
  MembersAreWhole (member k d ms) = IsWhole d × MembersAreWhole ms

-- different transcripts have different texts
abbrev pub TextsTellTranscripts : Type 0
TextsTellTranscripts = (t u : Transcript) → IsWhole (transcript_value t) → IsWhole (transcript_value u) → transcript_text t ≡ transcript_text u → t ≡ u
