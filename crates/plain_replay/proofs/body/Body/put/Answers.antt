use Rattle.std.proofs.Common.{◌≡◌, ◌+◌, ◌∙◌, ap, subst, ℕ, List, length}
use Rattle.std.specs.Prelude.{Option, unwrap_or, IfOk}
use Rattle.points.specs.Place.{offset_of}
use Rattle.machine.specs.Machine.{part_of}
use Rattle.plain_replay.proofs.body.Body.put.Goals as goal

pub returns-clause-part : goal.returns-clause-part
returns-clause-part c =
    let from : c.unwrap_or-from.result ≡ unwrap_or (offset_of c.args.self.now.text c.args.start) 0 =
    c.unwrap_or-from.ensures ∙ ap (λ (o : Option ℕ). unwrap_or o 0) (c.offset_of.ensures ∙ ap (λ (t : List ℕ). offset_of t c.args.start) c.text.ensures.value) in
    subst (λ (i : ℕ). IfOk c.changed.result (λ r. r.1 ≡ part_of c.args.self.now i (i + length c.args.old.now) c.args.new.now)) from c.changed.ensures.part
