use Rattle.std.proofs.Common.{◌≡◌, ◌≤◌, drop, map, length}
use Rattle.drafts.proofs.DraftLemmas.{IsKeeping}
use Rattle.drafts.proofs.keep.keep_all.Given as goal

abbrev pub invariant-loop-name : goal.invariant-loop-name
invariant-loop-name g l = record {
  keeping : IsKeeping (map (λ n. n.now) l.names) (map (λ n. n.now) (drop l.name-index l.names)) (map g.F.Out.Sink.taken l.initial.sinks.items) (map g.F.Out.Sink.taken l.sinks.items) (g.F.Folder.files l.initial.folder) (g.F.Folder.files l.folder);
  many : length l.sinks.items ≡ length (drop l.name-index l.names);
  loads : g.F.Folder.loads l.folder ≡ g.F.Folder.loads l.initial.folder;
  count : g.F.Folder.saves l.initial.folder ≤ g.F.Folder.saves l.folder;
}
