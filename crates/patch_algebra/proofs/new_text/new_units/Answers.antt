use Rattle.std.proofs.Common.{◌∙◌, ◌++◌, ℕ, List, slice_range, ap}
use Rattle.patch.specs.Hunk.{hunk_seen}
use Rattle.patch_algebra.proofs.ApplyLemmas.{left_of, put_more, put_last}
use Rattle.patch_algebra.proofs.new_text.new_units.Goals as goal

pub loop-change-preserved : goal.loop-change-preserved
loop-change-preserved c = ap (λ (n : ℕ). c.append-in-loop-change.new.self ++ left_of c.args.text.now n c.next.new.self) c.offset_in-read.ensures
    ∙ put_more c.args.text.now c.loop-change.read c.args.patch.now.changes c.loop-change.change-iterator c.next.new.self (hunk_seen c.in-Some.change) c.loop-change.units c.stretch.result.now c.append-in-loop-change.new.self
    c.in-Some.ensures.steps (c.stretch.ensures ∙ ap (slice_range c.args.text.now c.loop-change.read) c.offset_in.ensures)
    (c.in_ok-append-2.ensures.ok ∙ ap (λ (xs : List ℕ). xs ++ c.in-Some.change.new_text.now) c.in_ok-append.ensures.ok) c.loop-change.invariant

pub returns : goal.returns
returns c = put_last c.args.text.now c.loop-change.read c.args.patch.now.changes c.loop-change.change-iterator c.loop-change.units c.stretch-2.result.now c.append-2.new.self
    c.in-None.ensures.steps.0 (c.stretch-2.ensures ∙ ap (slice_range c.args.text.now c.loop-change.read) c.len.ensures.value) c.in_ok-append-3.ensures.ok c.loop-change.invariant
