-- What a plain string answers to small scripts of one session, worked out by computing.
use Rattle.std.proofs.Common.{◌≡◌, ℕ, List, [], ◌∷◌, true, Some, refl}
use Rattle.std.specs.Char.Utf16.{utf16_chars}
use Rattle.std.specs.Str.{chars}
use lib.Utf8.{encode}
use Rattle.points.specs.declared.point.Point.{Point}
use Rattle.points.specs.declared.range.Range.{Range}
use Rattle.points.specs.Point.{point_le}
use Rattle.machine.specs.declared.command.Command.TheVariants as command
use Rattle.machine.specs.declared.reads.Read.TheVariants as read
use Rattle.machine.specs.declared.reads.Encoding.TheVariants as encoding
use Rattle.machine.specs.declared.reads.ReadAnswer.TheVariants as answer
use Rattle.machine.specs.declared.reply.HitNumbers.{HitNumbers}
use Rattle.machine.specs.declared.reply.Reply.TheVariants as reply
use Rattle.machine.specs.declared.reply.Span.{Span}
use Rattle.machine.specs.Machine.{opened, step}
use Rattle.machine.specs.Plain.{plain_replies}

at : ℕ → ℕ → Point
at row column = record { row = row; column = column }

range : (a b c d : ℕ) → point_le (record { row = a; column = b }) (record { row = c; column = d }) ≡ true → Range
range a b c d h = record { start = record { row = a; column = b }; end = record { row = c; column = d }; ordered = h }

span : Point → Point → Span
span p q = record { start = p; end = q }

no_hits : HitNumbers
no_hits = record { touch = 0; inside = 0; overlap = 0; surround = 0 }

-- a snapshot keeps its text while the session edits on
reads_an_old_text : plain_replies 1 [] (opened (97 ∷ 98 ∷ 99 ∷ [])) [] (command.Take 1 ∷ command.Edit (range 0 0 0 0 refl) (49 ∷ []) ∷ command.Edit (range 0 0 0 0 refl) (50 ∷ [])
    ∷ command.Edit (range 0 0 0 1 refl) [] ∷ command.Read 1 (read.Text (range 0 0 9 9 refl) 100 ∷ read.Find (98 ∷ []) 5 ∷ []) ∷ command.Release 1 ∷ [])
    ≡ reply.Taken 0 ∷ reply.Edited 1 (at 0 1) (at 0 0) no_hits (at 0 0) ∷ reply.Edited 2 (at 0 1) (at 0 0) no_hits (at 0 0) ∷ reply.Edited 3 (at 0 0) (at 0 0) no_hits (at 0 1)
    ∷ reply.Answered (answer.Text (97 ∷ 98 ∷ 99 ∷ []) 3 ∷ answer.Found 1 (span (at 0 1) (at 0 2) ∷ []) ∷ []) ∷ reply.Nothing ∷ []
unfolding step range at span no_hits utf16_chars encode chars
reads_an_old_text = refl

-- a squash changes no version
squash_keeps_the_version : plain_replies 1 [] (opened (97 ∷ 98 ∷ [])) [] (command.Edit (range 0 2 0 2 refl) (99 ∷ []) ∷ command.Take 1 ∷ command.Squash ∷ command.Take 2 ∷ command.Read 1 (read.Size ∷ []) ∷ command.Read 2 (read.Size ∷ []) ∷ [])
    ≡ reply.Edited 1 (at 0 3) (at 0 2) no_hits (at 0 2) ∷ reply.Taken 1 ∷ reply.Nothing ∷ reply.Taken 1 ∷ reply.Answered (answer.Size (at 0 3) 3 ∷ []) ∷ reply.Answered (answer.Size (at 0 3) 3 ∷ []) ∷ []
unfolding step range at span no_hits utf16_chars encode chars
squash_keeps_the_version = refl

-- hits don't overlap; a limit shows the first ones; the pattern's hits are those that are told, as byte offsets
told_hits : List ℕ → List (ℕ × ℕ)
told_hits bytes = (0, 1) ∷ (2, 4) ∷ []

finds_hits : plain_replies 1 (Some told_hits ∷ []) (opened (97 ∷ 97 ∷ 97 ∷ 97 ∷ [])) [] (command.Take 1 ∷ command.Send 1 (read.Find (97 ∷ 97 ∷ []) 10 ∷ read.Find (97 ∷ 97 ∷ []) 1 ∷ read.Pattern [] 9 ∷ []) ∷ [])
    ≡ reply.Taken 0 ∷ reply.Answered (answer.Found 2 (span (at 0 0) (at 0 2) ∷ span (at 0 2) (at 0 4) ∷ []) ∷ answer.Found 2 (span (at 0 0) (at 0 2) ∷ []) ∷ answer.Found 2 (span (at 0 0) (at 0 1) ∷ span (at 0 2) (at 0 4) ∷ []) ∷ []) ∷ []
unfolding step range at span no_hits utf16_chars encode chars told_hits
finds_hits = refl

-- a character above U+00FF and one above U+FFFF in four encodings
counts_bytes : plain_replies 1 [] (opened (0x100 ∷ 0xD83D ∷ 0xDE00 ∷ [])) [] (command.Take 1 ∷ command.Read 1 (read.Save [] encoding.Latin1 ∷ read.Save [] encoding.Utf16Be ∷ read.Save [] encoding.Utf16Le ∷ read.Save [] encoding.Utf8 ∷ []) ∷ [])
    ≡ reply.Taken 0 ∷ reply.Answered (answer.Saved 2 ∷ answer.Saved 6 ∷ answer.Saved 6 ∷ answer.Saved 6 ∷ []) ∷ []
unfolding step range at span no_hits utf16_chars encode chars
counts_bytes = refl

-- an undo is an edit's reply in version 1, and a list in version 2
undo_of_version_one : plain_replies 1 [] (opened (97 ∷ 98 ∷ [])) [] (command.Edit (range 0 1 0 1 refl) (120 ∷ []) ∷ command.Undo ∷ [])
    ≡ reply.Edited 1 (at 0 2) (at 0 1) no_hits (at 0 1) ∷ reply.Edited 2 (at 0 1) (at 0 1) no_hits (at 0 2) ∷ []
unfolding step range at span no_hits utf16_chars encode chars
undo_of_version_one = refl

batch_of_version_two : plain_replies 2 [] (opened (97 ∷ 98 ∷ 99 ∷ [])) [] (command.Batch (record { range = range 0 0 0 0 refl; text = 88 ∷ [] } ∷ record { range = range 0 2 0 3 refl; text = [] } ∷ []) ∷ command.Undo ∷ [])
    ≡ reply.Batched 1 (record { end = at 0 1; from = at 0 0; hits = no_hits; to = at 0 0 } ∷ record { end = at 0 2; from = at 0 2; hits = no_hits; to = at 0 3 } ∷ [])
    ∷ reply.Batched 2 (record { end = at 0 3; from = at 0 2; hits = no_hits; to = at 0 2 } ∷ record { end = at 0 0; from = at 0 0; hits = no_hits; to = at 0 1 } ∷ []) ∷ []
unfolding step range at span no_hits utf16_chars encode chars
batch_of_version_two = refl
