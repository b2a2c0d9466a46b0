use Rattle.std.proofs.Common.{◌≡◌, ◌≤◌, ◌⊎◌, true, vec_len}
use Rattle.outer.specs.Count.{Rose}
use Rattle.outer.specs.Folder.{KeepsAll}
use Rattle.drafts.specs.Drafts.{has_faulty}
use Rattle.drafts.proofs.discard.discard_all.Given as goal

abbrev pub invariant-loop-sink : goal.invariant-loop-sink
invariant-loop-sink g l = record {
  kept : KeepsAll (g.F.Folder.files l.initial.folder) (g.F.Folder.files l.folder);
  loads : g.F.Folder.loads l.folder ≡ g.F.Folder.loads l.initial.folder;
  count : g.F.Folder.saves l.initial.folder ≤ g.F.Folder.saves l.folder;
  rises : has_faulty g.F.Out.Sink.faults l.initial.sinks.items ≡ true → (has_faulty g.F.Out.Sink.faults l.sinks.items ≡ true) ⊎ Rose (g.F.Folder.saves l.initial.folder) (g.F.Folder.saves l.folder);
}

abbrev pub decreases-loop-sink : goal.decreases-loop-sink
decreases-loop-sink g l = vec_len l.sinks
