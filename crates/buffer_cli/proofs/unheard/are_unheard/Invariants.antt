use Rattle.std.proofs.Common.{◌≡◌, drop}
use Rattle.std.specs.List.{AllByRecursion}
use Rattle.watch.specs.Listed.{heard_count}
use Rattle.buffer_cli.proofs.unheard.are_unheard.Given as goal

abbrev pub invariant-loop-watcher : goal.invariant-loop-watcher
invariant-loop-watcher l = AllByRecursion (λ w. heard_count w.value ≡ 0) (drop l.watcher-index l.watchers) → AllByRecursion (λ w. heard_count w.value ≡ 0) l.watchers
