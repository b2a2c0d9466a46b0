use Rattle.std.proofs.Common.{◌≡◌, ℕ, ◌+◌, ◌≤◌, List, ◌∷◌, length, arith, ap, ◌∙◌, subst}
use Rattle.std.specs.List.{AllByRecursion}
use Rattle.outer.proofs.PutLemmas.{begins, put_more, none_more}
use Rattle.outer.proofs.literal.put_matches.Goals.{then-count-limit+in_ok-push, else-count-limit}
use Rattle.outer.proofs.literal.put_matches.Goals as goal

pub loop-start-init : goal.loop-start-init
loop-start-init c = let b = begins c.args.text.now c.args.needle.now c.into_iter-start-iterator.result c.requires (c.into_iter-start-iterator.ensures.into_iter_gives ∙ c.find_iter-start-items.ensures.value) c.args.limit c.args.into.now in
    record { count = b.count; first = b.first; fit = b.fit }

-- the next hit ends within the text
fits_next : (n whole start : ℕ) (rest left : List ℕ) → left ≡ start ∷ rest → AllByRecursion (λ s. s + n ≤ whole) left → (start + n ≤ whole) × AllByRecursion (λ s. s + n ≤ whole) rest
fits_next n whole start rest left e h = subst (AllByRecursion (λ s. s + n ≤ whole)) e h

pub overflow_add-start : goal.overflow_add-start
overflow_add-start c = let fits : c.in-Some.start + length c.args.needle.now ≤ length c.args.text.now = (fits_next _ _ _ _ _ c.in-Some.ensures.steps c.loop-start.invariant.fit).0 in omega arith

pub overflow_add-count : goal.overflow_add-count
overflow_add-count c = let b = begins c.args.text.now c.args.needle.now c.into_iter-start-iterator.result c.requires (c.into_iter-start-iterator.ensures.into_iter_gives ∙ c.find_iter-start-items.ensures.value) c.args.limit c.args.into.now in
    omega (arith, b.count, c.loop-start.invariant.count, ap length c.into_iter-start-iterator.ensures.into_iter_gives, ap length c.in-Some.ensures.steps, c.find_iter-start-items.ensures.len)

pub loop-start-preserved : goal.loop-start-preserved
loop-start-preserved c = record {
  count = omega (arith, c.loop-start.invariant.count, ap length c.in-Some.ensures.steps);
  first = elim c.if-count-limit.branch [
    | then-count-limit+in_ok-push w ↦ put_more _ _ _ c.in-Some.start c.loop-start.into _ _ _ _ c.in-Some.ensures.steps c.loop-start.invariant.first w.if-count-limit.true (w.into-is ∙ w.in_ok-push.ensures.ok)
    | else-count-limit w ↦ none_more _ _ _ c.in-Some.start c.loop-start.into _ _ _ _ c.in-Some.ensures.steps c.loop-start.invariant.first w.if-count-limit.false w.into-is
  ];
  fit = (fits_next _ _ _ _ _ c.in-Some.ensures.steps c.loop-start.invariant.fit).1;
}
