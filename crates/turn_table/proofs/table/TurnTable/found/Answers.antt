use Rattle.std.proofs.Common.{Option, Some, List, [], ◌∷◌, ◌++◌, refl, sym, ap, ◌∙◌, subst}
use Rattle.atomic_table.specs.Table.{opening}
use Rattle.turn_table.specs.Meaning.{MayFollow}
use Rattle.turn_table.specs.Rule.{Kept, first_view}
use Rattle.turn_table.proofs.SplitLemmas.{opens}
use Rattle.turn_table.proofs.OpenLemmas.{below_true}
use Rattle.turn_table.proofs.table.TurnTable.found.Goals as goal

pub new-requires : goal.new-requires
new-requires g c =
    let m = g.O.Object.meaning in
    let O = g.row.O.Denot in
    let items = c.push_reserved.ensures.items ∙ ap (λ l. l ++ Some c.args.object ∷ []) c.in-Ok.ensures.items in
    subst (λ (z : O × List (Option O)). Kept m (MayFollow m g.O.Object.Meets) g.O.Object.state (g.O.Object.state z.0) c.args.desks (opening (0 ∷ 0 ∷ []) z.1 (first_view c.args.desks c.args.hands)))
    (λ i. (sym c.of.ensures i, sym items i))
    (opens m (MayFollow m g.O.Object.Meets) g.O.Object.state (g.O.Object.state c.args.object) c.args.desks c.args.hands c.args.object refl (λ n h. c.requires.out n ∙ below_true n c.args.hands h))
