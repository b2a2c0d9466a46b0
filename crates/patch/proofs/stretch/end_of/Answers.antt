use Rattle.std.proofs.Common.{◌≡◌, ◌∙◌, ℕ, List, ap, sym, subst, true, arith}
use Rattle.points.specs.declared.point.Point.{Point}
use Rattle.points.specs.Point.{point_le}
use Rattle.points.specs.Place.{extent}
use Rattle.points.proofs.CapLemmas.{capped_over, point_le-capped}
use Rattle.points.specs.Distance.{capped, traverse_capped}
use Rattle.patch.proofs.stretch.end_of.Goals as goal

end_is : (c : goal.After-traverse_capped) → c.traverse_capped.result ≡ traverse_capped c.args.start (extent c.args.text.now)
end_is c = c.traverse_capped.ensures ∙ (ap (traverse_capped c.args.start) (c.extent_capped.ensures ∙ ap (λ (xs : List ℕ). capped (extent xs)) c.as_slice.ensures) ∙ capped_over c.args.start (extent c.args.text.now))

pub returns-clause-end : goal.returns-clause-end
returns-clause-end c = end_is c

pub returns-clause-behind : goal.returns-clause-behind
returns-clause-behind c = subst (λ (p : Point). point_le c.args.start p ≡ true) (sym (end_is c)) (point_le-capped c.args.start (extent c.args.text.now) (omega arith) (omega arith))
