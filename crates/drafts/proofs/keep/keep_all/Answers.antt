use Rattle.std.proofs.Common.{◌+◌, drop, map, get_or, [], ◌∷◌, sym, subst, arith, ◌∙◌}
use Rattle.drafts.proofs.DraftLemmas.{IsKeeping, no_name, when_ok, names_of, next_names, no_names, one_left, first_taken, fewer, no_sinks, keeping_more, keeping_failed, keeping_all}
use Rattle.drafts.proofs.keep.keep_all.Goals as goal

pub returns-then-is_err-clause-others : goal.returns-then-is_err-clause-others
returns-then-is_err-clause-others g c =
    let names = names_of c.args.names.now in
    let i = c.loop-name.name-index in
    let now = subst (λ rest. IsKeeping names rest (map g.F.Out.Sink.taken c.args.sinks.items) (map g.F.Out.Sink.taken c.loop-name.sinks.items) (g.F.Folder.files c.args.folder.now) (g.F.Folder.files c.loop-name.folder)) (next_names c.args.names.now i no_name c.loop-name-test.true) c.loop-name.invariant.keeping in
    keeping_failed names (names_of (drop (i + 1) c.args.names.now)) _ _ _ _ _ _ _ c.keep.ensures.others c.discard_all.ensures.kept now

pub loop-name-preserved : goal.loop-name-preserved
loop-name-preserved g c =
    let names = names_of c.args.names.now in
    let i = c.loop-name.name-index in
    let within = c.loop-name-test.true in
    let before = c.loop-name.invariant in
    let rest = names_of (drop (i + 1) c.args.names.now) in
    let now = subst (λ rest. IsKeeping names rest (map g.F.Out.Sink.taken c.args.sinks.items) (map g.F.Out.Sink.taken c.loop-name.sinks.items) (g.F.Folder.files c.args.folder.now) (g.F.Folder.files c.loop-name.folder)) (next_names c.args.names.now i no_name c.loop-name-test.true) c.loop-name.invariant.keeping in
    let left = first_taken g.F.Out.Sink.taken c.loop-name.sinks.items c.remove-sink.new.self.items c.remove-sink.result c.remove-sink.ensures.value c.remove-sink.ensures.by_index.2 (one_left c.args.names.now i c.loop-name.sinks.items within before.many) in
    let next = subst (λ left. IsKeeping names ((get_or c.args.names.now i no_name).now ∷ rest) (map g.F.Out.Sink.taken c.args.sinks.items) left (g.F.Folder.files c.args.folder.now) (g.F.Folder.files c.loop-name.folder)) left now in
    record {
      keeping = keeping_more names rest _ _ _ _ _ _ _ c.keep.ensures.others (when_ok c.keep.result (sym c.is_err.ensures.value ∙ c.if-is_err.false) c.keep.ensures.holds) next;
      many = fewer c.args.names.now i c.loop-name.sinks.items c.remove-sink.new.self.items within before.many c.remove-sink.ensures.by_index.2;
      loads = c.keep.ensures.loads ∙ before.loads;
      count = omega (arith, before.count, c.keep.ensures.count);
    }

pub returns-clause-hold : goal.returns-clause-hold
returns-clause-hold g c =
    let names = names_of c.args.names.now in
    let i = c.loop-name.name-index in
    let past = c.loop-name-test.false in
    let none = subst (λ rest. IsKeeping names rest (map g.F.Out.Sink.taken c.args.sinks.items) (map g.F.Out.Sink.taken c.loop-name.sinks.items) (g.F.Folder.files c.args.folder.now) (g.F.Folder.files c.loop-name.folder)) (no_names c.args.names.now i past) c.loop-name.invariant.keeping in
    let all = subst (λ left. IsKeeping names [] (map g.F.Out.Sink.taken c.args.sinks.items) left (g.F.Folder.files c.args.folder.now) (g.F.Folder.files c.loop-name.folder)) (no_sinks g.F.Out.Sink.taken c.args.names.now i c.loop-name.sinks.items past c.loop-name.invariant.many) none in
    (keeping_all names _ _ _ all).0
