use Rattle.std.proofs.Common.{[], ◌∷◌, ◌++◌, ◌∙◌, ap, List}
use Rattle.points.specs.declared.mark.Splice.{Splice}
use Rattle.plain_replay.proofs.SeatLemmas.{told_is}
use Rattle.plain_replay.proofs.watchers.Watchers.told.Goals as goal

pub returns : goal.returns
returns c = told_is c.self.inside.told.items _ c.self.inside.seats.items _ c.args.change c.args.self.now
    (c.in_ok-push.ensures.items ∙ ap (λ (xs : List Splice). xs ++ c.args.change ∷ []) (c.in_ok-told.ensures.items ∙ c.as_slice-2.ensures.value))
    (c.in_ok-seats.ensures.items ∙ c.as_slice.ensures.value) c.self.invariant c.self.view_is
