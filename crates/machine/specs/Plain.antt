-- What a plain string answers to the commands of one session, one after the other.
use Rattle.std.specs.Prelude.{ℕ, ◌+◌, ◌==◌, ◌&&◌, List, [], ◌∷◌, length, drop, find, not, Bool, true, Option, Some, None}
use Rattle.std.specs.List.{filter, list_any}
use Rattle.points.specs.Text.{text_of}
use Rattle.machine.specs.declared.command.Command.{Command}
use Rattle.machine.specs.declared.command.Command.TheVariants as command
use Rattle.machine.specs.declared.reads.Read.{Read}
use Rattle.machine.specs.declared.reads.ReadAnswer.{ReadAnswer}
use Rattle.machine.specs.declared.reads.ReadAnswer.TheVariants as answer
use Rattle.machine.specs.declared.reply.Reply.{Reply}
use Rattle.machine.specs.declared.reply.Reply.TheVariants as reply
use Rattle.machine.specs.declared.reply.Transcript.{Transcript}
use Rattle.machine.specs.Machine.{State, opened, Call, step, after}
use Rattle.machine.specs.Answers.{call_of, reply_of, Matches, read_answer}
use Rattle.machine.specs.Lawful.{next_told, told_after, patterns_in}

-- a snapshot that was taken: its number and its text
pub record Kept : Type 0 where
  pub number : ℕ
  pub text : List ℕ

-- the text of the snapshot that was taken last under this number
abbrev pub text_kept : Option Kept → List ℕ
text_kept None = []
text_kept (Some kept) = kept.text

abbrev pub kept_text : ℕ → List Kept → List ℕ
kept_text k kept = text_kept (find (λ s. s.number == k) kept)

-- the definition's answer, or no hits where none are told
abbrev pub plain_answer : Option ReadAnswer → ReadAnswer
plain_answer None = answer.Found 0 []
plain_answer (Some a) = a

-- what reads of the text t answer
abbrev pub plain_answers : List ℕ → List (Option Matches) → List Read → List ReadAnswer
plain_answers t told [] = []
plain_answers t told (r ∷ rs) = plain_answer (read_answer t (next_told told) r) ∷ plain_answers t (told_after r told) rs

-- the reply to a command that is no numbered call
abbrev pub unnumbered : State → List Kept → List (Option Matches) → Command → Reply
unnumbered s kept told (command.Take k) = reply.Taken s.version
unnumbered s kept told (command.Read k reads) = reply.Answered (plain_answers (kept_text k kept) told reads)
unnumbered s kept told (command.Send k reads) = reply.Answered (plain_answers (kept_text k kept) told reads)
unnumbered s kept told _ = reply.Nothing

-- the reply to a numbered call, or else this reply
abbrev pub said : ℕ → State → Reply → Option Call → Reply
said version s other None = other
said version s other (Some call) = reply_of version (s.count + 1) (step s call).1

abbrev pub plain_reply : ℕ → State → List Kept → List (Option Matches) → Command → Reply
plain_reply version s kept told c = said version s (unnumbered s kept told c) (call_of c)

-- the state after a command, and the snapshots kept
abbrev pub after_call : State → Option Call → State
after_call s None = s
after_call s (Some call) = (step s call).0

abbrev pub kept_after : State → Command → List Kept → List Kept
kept_after s (command.Take k) kept = record { number = k; text = s.text } ∷ kept
kept_after s _ kept = kept

-- the replies to these commands from a state on, with the told hits of their patterns
abbrev pub plain_replies : ℕ → List (Option Matches) → State → List Kept → List Command → List Reply
plain_replies version told s kept [] = []
plain_replies version told s kept (c ∷ cs) =
    plain_reply version s kept told c ∷ plain_replies version (drop (patterns_in c) told) (after_call s (call_of c)) (kept_after s c kept) cs

-- the numbered calls of a session
abbrev pub with_call : Option Call → List Call → List Call
with_call None calls = calls
with_call (Some call) calls = call ∷ calls

abbrev pub calls_of : List Command → List Call
calls_of [] = []
calls_of (c ∷ cs) = with_call (call_of c) (calls_of cs)

-- the transcript of one session over a text
abbrev pub plain_transcript : ℕ → List (Option Matches) → List ℕ → List Command → Transcript
plain_transcript version told opening commands = record {
  end = record { count = length (calls_of commands); text = text_of (after (opened opening) (calls_of commands)).text };
  sessions = plain_replies version told (opened opening) [] commands ∷ [];
  version = version;
}

-- the numbers of the live snapshots after a command
abbrev pub live_after : Command → List ℕ → List ℕ
live_after (command.Take k) live = k ∷ live
live_after (command.Send k reads) live = filter (λ n. not (n == k)) live
live_after (command.Release k) live = filter (λ n. not (n == k)) live
live_after _ live = live

-- the command reads no snapshot but a live one
abbrev pub is_live : List ℕ → Command → Bool
is_live live (command.Read k reads) = list_any (λ n. n == k) live
is_live live (command.Send k reads) = list_any (λ n. n == k) live
is_live live _ = true

abbrev pub are_live : List ℕ → List Command → Bool
are_live live [] = true
are_live live (c ∷ cs) = is_live live c && are_live (live_after c live) cs
