use Rattle.std.proofs.Common.{◌+◌, drop, refl, sym, ap, subst, arith, ◌∙◌}
use Rattle.std.specs.List.{AllByRecursion}
use Rattle.drafts.specs.Drafts.{IsFresh}
use Rattle.drafts.proofs.DraftLemmas.{IsMaking, no_name, names_of, next_names, making_more, making_failed, all_end}
use Rattle.drafts.proofs.make.make_all.Goals as goal

pub returns-in-Err-clause-others : goal.returns-in-Err-clause-others
returns-in-Err-clause-others g c =
    let names = names_of c.args.names.now in
    let i = c.loop-name.name-index in
    let now = subst (λ rest. IsMaking names rest (g.F.Folder.files c.args.folder.now) (g.F.Folder.files c.loop-name.folder)) (next_names c.args.names.now i no_name c.loop-name-test.true) c.loop-name.invariant.making in
    making_failed names (names_of (drop (i + 1) c.args.names.now)) _ _ _ _ _ c.in-Err.ensures.others c.discard_all.ensures.kept now

pub loop-name-preserved : goal.loop-name-preserved
loop-name-preserved g c =
    let names = names_of c.args.names.now in
    let i = c.loop-name.name-index in
    let before = c.loop-name.invariant in
    let now = subst (λ rest. IsMaking names rest (g.F.Folder.files c.args.folder.now) (g.F.Folder.files c.loop-name.folder)) (next_names c.args.names.now i no_name c.loop-name-test.true) before.making in
    record {
      making = making_more names (names_of (drop (i + 1) c.args.names.now)) _ _ _ _ c.create.ensures.others (c.in-Ok.ensures.there refl) now;
      fresh = subst (AllByRecursion (IsFresh g.F.Out.Sink.taken g.F.Out.Sink.faults)) (sym c.push_reserved.ensures.items) (all_end _ c.loop-name.sinks.items c.in-Ok.sink before.fresh (c.in-Ok.ensures.empty, c.in-Ok.ensures.fresh));
      len = c.push_reserved.ensures.len ∙ ap (λ n. n + 1) before.len;
      room = omega (arith, before.room, c.push_reserved.ensures.capacity);
      loads = c.create.ensures.loads ∙ before.loads;
      count = omega (arith, before.count, c.create.ensures.count);
    }
