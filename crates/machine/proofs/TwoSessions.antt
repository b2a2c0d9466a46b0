-- A history of two sessions, written down: the transcript is lawful, and with a wrong version, reply or text it isn't.
use Rattle.std.proofs.Common.{ℕ, List, [], ◌∷◌, true, refl, arith}
use Rattle.std.specs.Char.Utf16.{utf16_chars}
use Rattle.std.specs.Str.{chars}
use lib.Utf8.{encode}
use Rattle.points.specs.declared.point.Point.{Point}
use Rattle.points.specs.declared.range.Range.{Range}
use Rattle.machine.specs.declared.command.Command.TheVariants as command
use Rattle.machine.specs.declared.command.Opening.TheVariants as opening
use Rattle.machine.specs.declared.command.Script.{Script}
use Rattle.machine.specs.declared.reads.Read.TheVariants as read
use Rattle.machine.specs.declared.reads.ReadAnswer.TheVariants as answer
use Rattle.machine.specs.declared.reply.Reply.{Reply}
use Rattle.machine.specs.declared.reply.Reply.TheVariants as reply
use Rattle.machine.specs.declared.reply.Transcript.{Transcript}
use Rattle.machine.specs.Machine.{Answer, Edited, edit, step}
use Rattle.machine.specs.Histories.{Event, called, hand, hand_back, IsWritten}
use Rattle.machine.specs.Lawful.{IsLawful}
use Rattle.machine.proofs.ManySessions.{history_is_lawful}

abbrev at : ℕ → ℕ → Point
at row column = record { row = row; column = column }

abbrev start : Range
start = record { start = record { row = 0; column = 0 }; end = record { row = 0; column = 0 }; ordered = refl }

abbrev whole : Range
whole = record { start = record { row = 0; column = 0 }; end = record { row = 9; column = 9 }; ordered = refl }

-- an insertion of one unit at the start
abbrev inserted : Answer
inserted = Edited (record { from = record { row = 0; column = 0 }; to = record { row = 0; column = 0 }; end = record { row = 0; column = 1 }; hits = record { touch = 0; inside = 0; overlap = 0; surround = 0 } })

abbrev inserted_as : ℕ → ℕ → Reply
inserted_as n column = reply.Edited n (at 0 1) (at 0 0) (record { touch = 0; inside = 0; overlap = 0; surround = 0 }) (at 0 column)

-- session 1 inserts x; session 2 takes the text, reads it and inserts y
abbrev two : Script
two = record { version = 1; opening = opening.Text (97 ∷ 98 ∷ []); sessions = (command.Edit start (120 ∷ []) ∷ []) ∷ (command.Take 1 ∷ command.Read 1 (read.Text whole 100 ∷ []) ∷ command.Edit start (121 ∷ []) ∷ []) ∷ [] }

abbrev written : ℕ → ℕ → List ℕ → Transcript
written version column text = record { end = record { count = 2; text = text }; sessions = (inserted_as 1 column ∷ []) ∷ (reply.Taken version ∷ reply.Answered (answer.Text (120 ∷ 97 ∷ 98 ∷ []) 3 ∷ []) ∷ inserted_as 2 0 ∷ []) ∷ []; version = 1 }

abbrev history : List Event
history = called 1 (edit (start, 120 ∷ [])) inserted ∷ hand 2 true ∷ hand_back 2 ∷ called 2 (edit (start, 121 ∷ [])) inserted ∷ []

is_written : IsWritten two (97 ∷ 98 ∷ []) 0 [] history (written 1 0 (121 ∷ 120 ∷ 97 ∷ 98 ∷ []))
unfolding step utf16_chars encode chars
is_written = record {
  legal = (refl, (refl, (omega arith, (refl, tt))));
  callers = ((omega arith, omega arith), ((omega arith, omega arith), tt));
  version = refl;
  forms = refl;
  owned = (refl, (refl, tt));
  fronts = (record { front = called 1 (edit (start, 120 ∷ [])) inserted ∷ hand 2 true ∷ []; behind = hand_back 2 ∷ called 2 (edit (start, 121 ∷ [])) inserted ∷ []; is_front = refl; earlier = refl; shown = refl; answers = (refl, tt) }, tt);
  count = refl;
  text = refl;
}

is_lawful : IsLawful two (97 ∷ 98 ∷ []) [] (written 1 0 (121 ∷ 120 ∷ 97 ∷ 98 ∷ []))
is_lawful = history_is_lawful two (97 ∷ 98 ∷ []) 0 [] history (written 1 0 (121 ∷ 120 ∷ 97 ∷ 98 ∷ [])) is_written

-- the take shows the text of version 1 under version 0
wrong_version : IsLawful two (97 ∷ 98 ∷ []) [] (written 0 0 (121 ∷ 120 ∷ 97 ∷ 98 ∷ [])) → ⊥
unfolding step utf16_chars encode chars
wrong_version lawful = let same = lawful.snapshot.0.answers.0 in absurd cc

-- a call's reply with a wrong point
wrong_reply : IsLawful two (97 ∷ 98 ∷ []) [] (written 1 1 (121 ∷ 120 ∷ 97 ∷ 98 ∷ [])) → ⊥
unfolding step utf16_chars encode chars
wrong_reply lawful = let same = lawful.call 0 (omega arith) in absurd cc

-- the last text without the insertion of session 2
wrong_text : IsLawful two (97 ∷ 98 ∷ []) [] (written 1 0 (120 ∷ 97 ∷ 98 ∷ [])) → ⊥
unfolding step utf16_chars encode chars
wrong_text lawful = let same = lawful.end.text in absurd cc
