use Rattle.std.proofs.Common.{◌<◌, length, sym, ap, ◌∙◌, arith}
use Rattle.circular_buffer.specs.Buffer.{buffer}
use Rattle.edit_history.proofs.LastLemmas.{stays, crosses}
use Rattle.edit_history.proofs.steps.cross.Goals as goal

pub returns-in-Some-clause-to : goal.returns-in-Some-clause-to
returns-in-Some-clause-to g c =
    let over = crosses c.args.to.now.capacity c.args.from.now.items c.args.to.now.items c.in-Some.step (sym c.in-Some.ensures.value) c.requires in
    c.push_back.ensures.items ∙ ap (λ xs. buffer xs c.args.to.now.capacity) over.1

pub returns-in-None-clause-any : goal.returns-in-None-clause-any
returns-in-None-clause-any g c =
    let none = stays c.args.from.now.items c.args.to.now.items (sym c.in-None.ensures.value) in
    let no : 0 < length c.args.from.now.items → ⊥ = λ h. omega (arith, h, none.0) in
    ((λ h. cc), (λ h. absurd (no h)))

pub returns-in-None-clause-to : goal.returns-in-None-clause-to
returns-in-None-clause-to g c =
    let none = stays c.args.from.now.items c.args.to.now.items (sym c.in-None.ensures.value) in
    ap (λ xs. buffer xs c.args.to.now.capacity) (sym none.2)
