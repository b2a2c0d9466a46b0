-- The reply to a command that reads no snapshot.
use Rattle.std.proofs.Common.{◌≡◌, ℕ, List, [], refl, sym, subst, Option}
use Rattle.std.specs.Prelude.{Result, Ok, Err, IfOk}
use Rattle.points.specs.declared.memory.NoMemory.{NoMemory}
use Rattle.machine.specs.declared.command.Command.{Command}
use Rattle.machine.specs.declared.command.Command.TheVariants as command
use Rattle.machine.specs.declared.reads.Read.{Read}
use Rattle.machine.specs.declared.reply.Reply.{Reply}
use Rattle.machine.specs.Machine.{State}
use Rattle.machine.specs.Answers.{Matches}
use Rattle.machine.specs.Lawful.{patterns_in}
use Rattle.machine.specs.Plain.{Kept}
use Rattle.buffer_cli.specs.Answered.{answered}
use Rattle.buffer_cli.specs.Hits.{AreFound, IsReply}
use Rattle.buffer_cli.proofs.HitLemmas.{found_none}

pub no_patterns : (c : Command) → ((k : ℕ) (reads : List Read) → c ≡ command.Read k reads → ⊥) → ((k : ℕ) (reads : List Read) → c ≡ command.Send k reads → ⊥) → patterns_in c ≡ 0
no_patterns (command.Read k reads) read send = absurd (read k reads refl)
no_patterns (command.Send k reads) read send = absurd (send k reads refl)
no_patterns (command.Edit range text) read send = refl
no_patterns (command.Batch edits) read send = refl
no_patterns command.Undo read send = refl
no_patterns command.Redo read send = refl
no_patterns (command.Text range limit) read send = refl
no_patterns (command.Mark id range exclusive) read send = refl
no_patterns (command.Unmark id) read send = refl
no_patterns (command.Exclusive id value) read send = refl
no_patterns (command.Range id) read send = refl
no_patterns (command.Marks how range) read send = refl
no_patterns (command.Compare a b) read send = refl
no_patterns (command.Watch id) read send = refl
no_patterns (command.Unwatch id) read send = refl
no_patterns (command.Take k) read send = refl
no_patterns (command.Release k) read send = refl
no_patterns command.Squash read send = refl

pub reply_other : (s next : State) (held : List Kept) (told : List (Option Matches)) (c : Command) (r : Result Reply NoMemory) → patterns_in c ≡ 0 → IfOk r (λ reply. (next, reply) ≡ answered s held [] c)
    → IfOk r (λ reply. IsReply s held told told c next reply)
reply_other s next held told c (Ok reply) none is = record { found = []; hits = subst (λ (n : ℕ). AreFound n told told []) (sym none) (found_none told); is = is }
reply_other s next held told c (Err e) none is = is
