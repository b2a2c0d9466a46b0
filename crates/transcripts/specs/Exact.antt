-- Which bytes are a transcript: those whose JSON value is that of one.
use Rattle.std.specs.Prelude.{◌≡◌, ℕ, ◌≤◌, List, Option, Some, None}
use Rattle.std.specs.List.{AllByRecursion}
use Rattle.points.specs.declared.point.Point.{Point}
use Rattle.machine.specs.declared.reads.ReadAnswer.{ReadAnswer}
use Rattle.machine.specs.declared.reads.ReadAnswer.TheVariants as answer
use Rattle.machine.specs.declared.reply.Reply.{Reply}
use Rattle.machine.specs.declared.reply.Reply.TheVariants as reply
use Rattle.machine.specs.declared.reply.ReplyPart.{ReplyPart}
use Rattle.machine.specs.declared.reply.Span.{Span}
use Rattle.machine.specs.declared.reply.Transcript.{Transcript}
use Rattle.points.specs.Point.{IsWithin}
use Rattle.script.specs.ScriptDocument.{document}
use Rattle.script.specs.TranscriptDocument.{transcript_value}

-- ---- the transcripts that there are: of version 1, with points and ids of 32 bits

abbrev pub IsShort : ℕ → Type 0
IsShort n = n ≤ 4294967295

abbrev pub IsShortPoint : Point → Type 0
IsShortPoint p = IsWithin 4294967295 p

pub record IsShortSpan (s : Span) : Type 0 where
  pub start : IsShortPoint s.start
  pub end : IsShortPoint s.end

pub record IsShortChange (newer older kept : Point) : Type 0 where
  pub end : IsShortPoint newer
  pub from : IsShortPoint older
  pub to : IsShortPoint kept

abbrev pub IsShortPart : ReplyPart → Type 0
IsShortPart p = IsShortChange p.end p.from p.to

abbrev pub IsShortAnswer : ReadAnswer → Type 0
IsShortAnswer (answer.Size extent units) = IsShortPoint extent
IsShortAnswer (answer.Text text units) = Unit {0}
IsShortAnswer (answer.Found count hits) = AllByRecursion IsShortSpan hits
IsShortAnswer (answer.Saved bytes) = Unit {0}

abbrev pub IsShortReply : Reply → Type 0
IsShortReply (reply.Edited at end from hits to) = IsShortChange end from to
IsShortReply (reply.Batched at edits) = AllByRecursion IsShortPart edits
IsShortReply (reply.Text at text units) = Unit {0}
IsShortReply (reply.Numbered at) = Unit {0}
IsShortReply (reply.Range at exclusive range) = IsShortSpan range
IsShortReply (reply.Marks at ids) = AllByRecursion IsShort ids
IsShortReply (reply.Order at o) = Unit {0}
IsShortReply (reply.Heard at heard) = Unit {0}
IsShortReply (reply.Refused at why) = Unit {0}
IsShortReply (reply.Taken version) = Unit {0}
IsShortReply (reply.Answered answers) = AllByRecursion IsShortAnswer answers
IsShortReply reply.Nothing = Unit {0}

pub record IsOfVersionOne (t : Transcript) : Type 0 where
  pub version : t.version ≡ 1
  pub short : AllByRecursion (AllByRecursion IsShortReply) t.sessions

-- ---- what reading a transcript answers

-- the transcript whose JSON value the bytes hold, or none where they hold that of no transcript
abbrev pub IsReadOf : List ℕ → Option Transcript → Type 0
IsReadOf bytes (Some t) = (document bytes ≡ Some (transcript_value t)) × IsOfVersionOne t
IsReadOf bytes None = (t : Transcript) → IsOfVersionOne t → document bytes ≡ Some (transcript_value t) → ⊥
