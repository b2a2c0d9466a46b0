use Rattle.std.proofs.Common.{◌≡◌, ◌-◌, ◌++◌, ◌∷◌, arith, take, drop, ap, ◌∙◌, refl}
use Rattle.splay.proofs.CutLemmas.{load-without, last_moved, put_back, at_ok}
use Rattle.splay.proofs.pour.move_back.Goals as goal

pub insert_at-requires-clause-light : goal.insert_at-requires-clause-light
insert_at-requires-clause-light g c =
    omega (arith, c.requires.light, load-without g.M.Measure.weight c.args.left.now.items (c.len-at.result - 1) c.remove_at-measure.result c.remove_at-measure.ensures.item)

pub insert_at-requires-in-Err-clause-light : goal.insert_at-requires-in-Err-clause-light
insert_at-requires-in-Err-clause-light g c =
    rw c.remove_at-measure.ensures.items
    (omega (arith, c.requires.light, load-without g.M.Measure.weight c.args.left.now.items (c.len-at.result - 1) c.remove_at-measure.result c.remove_at-measure.ensures.item))

pub returns-in-Ok-clause-joined : goal.returns-in-Ok-clause-joined
returns-in-Ok-clause-joined g c =
    rw (c.remove_at-measure.ensures.items, c.in-Ok.ensures.ok)
    (last_moved c.args.left.now.items c.args.right.now.items (c.len-at.result - 1) c.remove_at-measure.result c.remove_at-measure.ensures.item (omega (arith, c.len-at.ensures.value, c.requires.some)))

pub returns-in-Err-clause-joined : goal.returns-in-Err-clause-joined
returns-in-Err-clause-joined g c =
    let back : c.insert_at-in-Err.new.self.items ≡ c.args.left.now.items =
    at_ok c.insert_at-in-Err.result _ c.insert_at-in-Err.ensures.ok (c.insert_at-in-Err.ensures.spared (omega (arith, c.remove_at-measure.ensures.spare)))
    ∙ ap (λ y. take (c.len-at.result - 1) c.remove_at-measure.new.self.items ++ (c.remove_at-measure.result.0, y) ∷ drop (c.len-at.result - 1) c.remove_at-measure.new.self.items) c.in-Err.ensures.back
    ∙ put_back c.args.left.now.items c.remove_at-measure.new.self.items (c.len-at.result - 1) c.remove_at-measure.result c.remove_at-measure.ensures.item c.remove_at-measure.ensures.items in
    rw (back, c.in-Err.ensures.err.0) refl

pub returns-in-Err-clause-left_stays : goal.returns-in-Err-clause-left_stays
returns-in-Err-clause-left_stays g c =
    λ _.
    let back : c.insert_at-in-Err.new.self.items ≡ c.args.left.now.items =
    at_ok c.insert_at-in-Err.result _ c.insert_at-in-Err.ensures.ok (c.insert_at-in-Err.ensures.spared (omega (arith, c.remove_at-measure.ensures.spare)))
    ∙ ap (λ y. take (c.len-at.result - 1) c.remove_at-measure.new.self.items ++ (c.remove_at-measure.result.0, y) ∷ drop (c.len-at.result - 1) c.remove_at-measure.new.self.items) c.in-Err.ensures.back
    ∙ put_back c.args.left.now.items c.remove_at-measure.new.self.items (c.len-at.result - 1) c.remove_at-measure.result c.remove_at-measure.ensures.item c.remove_at-measure.ensures.items in
    let spare = at_ok c.insert_at-in-Err.result _ c.insert_at-in-Err.ensures.spare (c.insert_at-in-Err.ensures.spared (omega (arith, c.remove_at-measure.ensures.spare))) in
    (back, omega (arith, spare, c.remove_at-measure.ensures.spare))
