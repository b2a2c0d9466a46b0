use Rattle.std.proofs.Common.{◌≡◌, ◌++◌, ℕ, List, Bor, drop, map}
use Rattle.script.specs.Limits.{saved_names}
use Rattle.buffer_cli.proofs.saves.names_of.Given as goal

abbrev pub invariant-loop-command : goal.invariant-loop-command
invariant-loop-command l = map (λ (n : Bor (List ℕ)). n.now) l.names.items ++ saved_names (drop l.command-index l.commands) ≡ saved_names l.commands
