use Rattle.std.proofs.Common.{arith, sym, ◌∙◌}
use Rattle.transcript_check.proofs.RisingLemmas.{rise_fault, rise_end}
use Rattle.transcript_check.proofs.rising.rise.Goals as goal

pub returns-then-not-is_above : goal.returns-then-not-is_above
returns-then-not-is_above c = rise_fault c.args.replies.now c.loop-i.i c.index-replies-i.result c.loop-i.last c.in-Some.number (omega (arith, c.loop-i-test.true)) c.index-replies-i.is
    (c.in-Some.ensures) (sym c.is_above.ensures ∙ c.if-not-is_above.true) c.loop-i.invariant

pub returns : goal.returns
returns c = rise_end c.args.replies.now c.loop-i.i c.loop-i.last (omega (arith, c.loop-i-test.false)) c.loop-i.invariant
