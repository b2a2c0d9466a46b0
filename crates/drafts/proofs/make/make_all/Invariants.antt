use Rattle.std.proofs.Common.{◌≡◌, ◌≤◌, drop, map, vec_len, vec_capacity, length}
use Rattle.std.specs.List.{AllByRecursion}
use Rattle.drafts.specs.Drafts.{IsFresh}
use Rattle.drafts.proofs.DraftLemmas.{IsMaking}
use Rattle.drafts.proofs.make.make_all.Given as goal

abbrev pub invariant-loop-name : goal.invariant-loop-name
invariant-loop-name g l = record {
  making : IsMaking (map (λ n. n.now) l.names) (map (λ n. n.now) (drop l.name-index l.names)) (g.F.Folder.files l.initial.folder) (g.F.Folder.files l.folder);
  fresh : AllByRecursion (IsFresh g.F.Out.Sink.taken g.F.Out.Sink.faults) l.sinks.items;
  len : vec_len l.sinks ≡ l.name-index;
  room : length l.names ≤ vec_capacity l.sinks;
  loads : g.F.Folder.loads l.folder ≡ g.F.Folder.loads l.initial.folder;
  count : g.F.Folder.saves l.initial.folder ≤ g.F.Folder.saves l.folder;
}
