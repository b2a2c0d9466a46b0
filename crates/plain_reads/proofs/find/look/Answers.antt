use Rattle.std.proofs.Common.{◌≡◌, ◌++◌, ◌+◌, ◌∷◌, [], List, ℕ, true, false, drop, ap, sym, ◌∙◌, append_assoc, arith}
use Rattle.points.specs.Literal.{stands_in_front}
use Rattle.plain_reads.specs.Searching.{left_at}
use Rattle.plain_reads.proofs.SearchLemmas.{skipped, missed, hit_there, rest_slice}
use Rattle.plain_reads.proofs.find.look.Goals as goal

pub returns-then-skip-gt0 : goal.returns-then-skip-gt0
returns-then-skip-gt0 c = ap (λ (xs : List ℕ). c.args.starts.now.items ++ xs) (skipped c.args.units.now c.args.needle.now c.args.at c.args.skip c.requires c.if-skip-gt0.true)

pub returns-then-not-starts_with : goal.returns-then-not-starts_with
returns-then-not-starts_with c =
    let start : 0 ≡ c.args.skip = omega (arith, c.if-skip-gt0.false) in
    let apart : stands_in_front c.args.needle.now (drop c.args.at c.args.units.now) ≡ false = ap (stands_in_front c.args.needle.now) (sym (rest_slice c.args.units.now c.args.at)) ∙ sym c.starts_with.ensures.value ∙ c.if-not-starts_with.true in
    ap (λ (xs : List ℕ). c.args.starts.now.items ++ xs)
    (missed c.args.units.now c.args.needle.now c.args.at c.requires apart ∙ ap (left_at c.args.units.now c.args.needle.now c.args.at) start)

pub returns : goal.returns
returns c =
    let start : 0 ≡ c.args.skip = omega (arith, c.if-skip-gt0.false) in
    let there : stands_in_front c.args.needle.now (drop c.args.at c.args.units.now) ≡ true = ap (stands_in_front c.args.needle.now) (sym (rest_slice c.args.units.now c.args.at)) ∙ sym c.starts_with.ensures.value ∙ c.if-not-starts_with.false in
    ap (λ (xs : List ℕ). xs ++ left_at c.args.units.now c.args.needle.now (c.args.at + 1) c.saturating_sub.result) c.in_ok-push.ensures.items
    ∙ append_assoc c.args.starts.now.items (c.args.at ∷ []) (left_at c.args.units.now c.args.needle.now (c.args.at + 1) c.saturating_sub.result)
    ∙ ap (λ (xs : List ℕ). c.args.starts.now.items ++ xs)
    (hit_there c.args.units.now c.args.needle.now c.args.at c.saturating_sub.result c.requires there c.saturating_sub.ensures ∙ ap (left_at c.args.units.now c.args.needle.now c.args.at) start)
