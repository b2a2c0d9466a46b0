use Rattle.std.proofs.Common.{◌≡◌, ◌+◌, [], ◌∷◌, drop, refl, sym, ap, ◌∙◌, subst, arith, rules}
use Rattle.std.proofs.lemmas.List.{drop_more, drop_all}
use Rattle.std.proofs.lemmas.Result.{on_ok_weaker}
use Rattle.script.proofs.ListLemmas.{IsPartway, member_written, list_closed}
use Rattle.script_writer.proofs.parts.write_parts.Goals as goal

pub loop-part-init : goal.loop-part-init
loop-part-init g c = record { before = refl; rest = λ end rest. rest }

pub loop-part-preserved : goal.loop-part-preserved
loop-part-preserved g c =
    let l = c.loop-part in
    let xs = c.args.parts.now in
    let x = c.part-item.result in
    let left = drop (l.part-index + 1) xs in
    let here : drop l.part-index xs ≡ x ∷ left = drop_more xs l.part-index x (omega arith) ∙ ap (λ y. y ∷ left) (sym c.part-item.is) in
    let value = g.T.Part.value in
    member_written value c.begin_array.new.self l.out c.write_part.new.out xs left x (subst (IsPartway value c.begin_array.new.self l.out xs) here l.invariant) c.in_ok-write_part.ensures

pub returns : goal.returns
returns g c =
    let l = c.loop-part in
    let xs = c.args.parts.now in
    let value = g.T.Part.value in
    let opened = c.begin_array.new.self in
    let none : drop l.part-index xs ≡ [] = drop_all l.part-index xs (omega arith) in
    on_ok_weaker c.end_array.result (λ e.
    list_closed value c.args.out.now opened l.out c.end_array.new.self xs (search rules) c.begin_array.ensures.room.0 (subst (IsPartway value opened l.out xs) none l.invariant) e c.end_array.ensures.room.0) c.end_array.ensures.ok
