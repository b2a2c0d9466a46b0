use Rattle.std.proofs.Common.{◌≡◌, ◌++◌, ℕ, List, Bor, drop, map}
use Rattle.script.specs.Limits.{names_among}
use Rattle.buffer_cli.proofs.saves.add_names.Given as goal

abbrev pub invariant-loop-read : goal.invariant-loop-read
invariant-loop-read l = map (λ (n : Bor (List ℕ)). n.now) l.names.items ++ names_among (drop l.read-index l.reads) ≡ map (λ (n : Bor (List ℕ)). n.now) l.initial.names.items ++ names_among l.reads
