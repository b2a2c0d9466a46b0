use Rattle.std.proofs.Common.{rules, ◌∙◌, ap, refl, Some, ◌∷◌}
use Rattle.atomic_table.specs.Table.{rest}
use Rattle.turn_table.proofs.LockLemmas.{lets_go}
use Rattle.turn_table.proofs.table.TurnTable.finish.Goals as goal

pub swap-requires : goal.swap-requires
swap-requires g c = let may = c.requires.may in (
  search rules,
  search rules,
  lets_go _ _ _ _ _ _ _ _ (g.O.Object.state c.args.object) may.made c.args.object (ap (λ me. me.0.holds) c.exchange.ensures.3 ∙ may.holds)
      (ap (λ me. me.1) c.exchange.ensures.3 ∙ ap (λ l. (0, Some c.args.object) ∷ rest l) c.requires.table.1) refl may.out,
)
