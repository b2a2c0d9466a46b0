use Rattle.std.proofs.Common.{◌∙◌, ◌++◌, List, drop, sym, ap}
use Rattle.patch.specs.Hunk.{Hunk}
use Rattle.patch.specs.Stretches.{parts_seen}
use Rattle.patch_algebra.specs.Merging.{betweens_seen, merged}
use Rattle.patch_algebra.proofs.composition.merged.Goals as goal

pub loop-change-preserved : goal.loop-change-preserved
loop-change-preserved c = record {
  within = c.in_ok-reached.ensures.within;
  made = c.in_ok-reached.ensures.merged c.next.new.self
      ∙ (ap (λ (qs : List Hunk). parts_seen c.loop-change.stretches.items ++ merged c.loop-change.reached.place (betweens_seen (drop c.loop-change.reached.at c.loop-change.middles.items)) qs)
      (sym c.in-Some.ensures.steps) ∙ c.loop-change.invariant.made);
}
