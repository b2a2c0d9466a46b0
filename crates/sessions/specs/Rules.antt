-- Which commands a session can answer, with the hands that it has.
use Rattle.std.specs.Prelude.{ℕ, ◌==◌, ◌&&◌, nat_lt, List, [], ◌∷◌, length, Bool, true, false, not, if◌then◌else◌}
use Rattle.std.specs.List.{list_any, list_all}
use Rattle.machine.specs.declared.command.Command.{Command}
use Rattle.machine.specs.declared.command.Command.TheVariants as command
use Rattle.machine.specs.declared.reads.Read.{Read}
use Rattle.machine.specs.declared.reads.Read.TheVariants as read
use Rattle.shared_buffer.specs.Entries.{is_plain}

-- the read wants nothing but the text, and a matcher where it is of a pattern: no file, and no search for nothing
abbrev pub is_own_read : Read → Bool
is_own_read read.Size = true
is_own_read (read.Text range limit) = true
is_own_read (read.Find needle limit) = not (length needle == 0)
is_own_read (read.Pattern pattern limit) = true
is_own_read _ = false

-- the numbers without the first that is this one
abbrev pub without_number : ℕ → List ℕ → List ℕ
without_number k [] = []
without_number k (n ∷ ns) = if n == k then ns else n ∷ without_number k ns

-- the numbers of the live snapshots after a command, the last taken first
abbrev pub numbers_after : Command → List ℕ → List ℕ
numbers_after (command.Take k) live = k ∷ live
numbers_after (command.Release k) live = without_number k live
numbers_after (command.Send k reads) live = without_number k live
numbers_after _ live = live

-- A session with so many hands and these live snapshots can answer the command: a take finds a hand, and what is read or sent is live and wants nothing but its text
-- and matchers; and it is no batch and no command on watchers
abbrev pub can_answer : ℕ → List ℕ → Command → Bool
can_answer hands live (command.Take k) = nat_lt (length live) hands
can_answer hands live (command.Read k reads) = list_any (λ n. n == k) live && list_all is_own_read reads
can_answer hands live (command.Release k) = true
can_answer hands live command.Squash = true
can_answer hands live (command.Send k reads) = list_any (λ n. n == k) live && list_all is_own_read reads
can_answer hands live c = is_plain c

-- so of these commands in turn
abbrev pub can_answer_all : ℕ → List ℕ → List Command → Bool
can_answer_all hands live [] = true
can_answer_all hands live (c ∷ cs) = can_answer hands live c && can_answer_all hands (numbers_after c live) cs
