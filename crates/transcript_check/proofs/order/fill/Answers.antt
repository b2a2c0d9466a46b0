use Rattle.std.proofs.Common.{◌-◌, ◌<◌, length, ◌∙◌, sym, ap, arith}
use Rattle.std.specs.Prelude.{None, is_some}
use Rattle.std.proofs.lemmas.List.{get_or_default}
use Rattle.transcript_check.proofs.order.fill.Goals as goal

pub returns-then-is_some-clause-taken : goal.returns-then-is_some-clause-taken
returns-then-is_some-clause-taken c =
    let within : c.args.at - 1 < length c.args.slots.now.items = omega (arith, c.if-at-eq0.false, c.if-at-len.false, c.len.ensures, c.args.slots.now.ok) in
    record {
      index = c.args.at - 1;
      within = within;
      number = omega (arith, c.if-at-eq0.false);
      some = ap is_some (get_or_default c.args.slots.now.items (c.args.at - 1) None c.index.result.now within ∙ sym c.index.ensures) ∙ sym c.is_some.ensures ∙ c.if-is_some.true;
    }
