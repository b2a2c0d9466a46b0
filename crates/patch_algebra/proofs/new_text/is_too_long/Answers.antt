use Rattle.std.proofs.Common.{◌≡◌, ◌∙◌, ◌+◌, ◌-◌, ◌^◌, ℕ, length, slice_range, refl, ap, arith}
use Rattle.std.proofs.lemmas.Bool.{ltb-true, lt-ltb}
use Rattle.patch.specs.Hunk.{hunk_seen}
use Rattle.patch.specs.Fit.{applied}
use Rattle.patch_algebra.proofs.ApplyLemmas.{left_of, len_more, len_last}
use Rattle.patch_algebra.proofs.new_text.is_too_long.Goals as goal

pub returns-then-kept-len : goal.returns-then-kept-len
returns-then-kept-len c = (
  λ _. omega (
    arith,
    len_more c.args.text.now c.loop-change.read c.args.patch.now.changes c.loop-change.change-iterator c.next.new.self (hunk_seen c.in-Some.change) c.loop-change.len c.stretch-kept.result.now
        c.in-Some.ensures.steps (c.stretch-kept.ensures ∙ ap (slice_range c.args.text.now c.loop-change.read) c.offset_in.ensures) c.loop-change.invariant.counted,
  ),
  λ _. refl,
)

pub returns-then-put_in-len : goal.returns-then-put_in-len
returns-then-put_in-len c = (
  λ _. omega (
    arith,
    len_more c.args.text.now c.loop-change.read c.args.patch.now.changes c.loop-change.change-iterator c.next.new.self (hunk_seen c.in-Some.change) c.loop-change.len c.stretch-kept.result.now
        c.in-Some.ensures.steps (c.stretch-kept.ensures ∙ ap (slice_range c.args.text.now c.loop-change.read) c.offset_in.ensures) c.loop-change.invariant.counted,
  ),
  λ _. refl,
)

pub loop-change-preserved : goal.loop-change-preserved
loop-change-preserved c = record {
  counted = ap (λ (n : ℕ). c.loop-change.len + length c.stretch-kept.result.now + length c.in-Some.change.new_text.now + length (left_of c.args.text.now n c.next.new.self)) c.offset_in-read.ensures
      ∙ len_more c.args.text.now c.loop-change.read c.args.patch.now.changes c.loop-change.change-iterator c.next.new.self (hunk_seen c.in-Some.change) c.loop-change.len c.stretch-kept.result.now
      c.in-Some.ensures.steps (c.stretch-kept.ensures ∙ ap (slice_range c.args.text.now c.loop-change.read) c.offset_in.ensures) c.loop-change.invariant.counted;
  short = omega (arith, c.loop-change.invariant.short);
}

pub returns : goal.returns
returns c = let whole : c.loop-change.len + length c.stretch.result.now ≡ length (applied c.args.patch.now.changes c.args.text.now) =
    len_last c.args.text.now c.loop-change.read c.args.patch.now.changes c.loop-change.change-iterator c.loop-change.len c.stretch.result.now
    c.in-None.ensures.steps.0 (c.stretch.ensures ∙ ap (slice_range c.args.text.now c.loop-change.read) c.len.ensures.value) c.loop-change.invariant.counted in
    (λ longer. omega (arith, whole, ltb-true (2 ^ 24 - c.loop-change.len) (length c.stretch.result.now) longer), λ longer. lt-ltb (2 ^ 24 - c.loop-change.len) (length c.stretch.result.now) (omega (arith, whole)))
