use Rattle.std.proofs.Common.{◌≡◌, ◌+◌, [], ◌∷◌, drop, refl, sym, ap, ◌∙◌, subst, arith, rules}
use Rattle.std.proofs.lemmas.List.{drop_more, drop_all}
use Rattle.std.proofs.lemmas.Result.{on_ok_weaker}
use Rattle.script.proofs.ListLemmas.{IsPartway, member_written, list_closed}
use Rattle.script.proofs.values.write_list.Goals as goal

pub loop-member-init : goal.loop-member-init
loop-member-init g c = record { before = refl; rest = λ end rest. rest }

pub loop-member-preserved : goal.loop-member-preserved
loop-member-preserved g c =
    let l = c.loop-member in
    let xs = c.args.members.now in
    let x = c.member-item.result in
    let left = drop (l.member-index + 1) xs in
    let here : drop l.member-index xs ≡ x ∷ left = drop_more xs l.member-index x (omega arith) ∙ ap (λ y. y ∷ left) (sym c.member-item.is) in
    let value = g.T.HasValue.json in
    member_written value c.begin_array.new.self l.out c.write.new.out xs left x (subst (IsPartway value c.begin_array.new.self l.out xs) here l.invariant) c.in_ok-write.ensures

pub returns : goal.returns
returns g c =
    let l = c.loop-member in
    let xs = c.args.members.now in
    let value = g.T.HasValue.json in
    let opened = c.begin_array.new.self in
    let none : drop l.member-index xs ≡ [] = drop_all l.member-index xs (omega arith) in
    on_ok_weaker c.end_array.result (λ e.
    list_closed value c.args.out.now opened l.out c.end_array.new.self xs (search rules) c.begin_array.ensures.room.0 (subst (IsPartway value opened l.out xs) none l.invariant) e c.end_array.ensures.room.0) c.end_array.ensures.ok
