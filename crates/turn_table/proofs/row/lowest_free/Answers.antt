use Rattle.std.proofs.Common.{rules, ◌≡◌, ◌<◌, ℕ, false, true, get_or, sym, ◌∙◌, arith}
use Rattle.turn_table.proofs.FreeLemmas.{taken_one, free_one, free_end}
use Rattle.turn_table.proofs.row.lowest_free.Goals as goal

pub returns-then-not-out-i : goal.returns-then-not-out-i
returns-then-not-out-i c = let h : c.loop-i.i < 32 = omega arith in let is : get_or c.args.out.now c.loop-i.i false ≡ false = search rules in
    sym (c.loop-i.invariant ∙ free_one (λ (n : ℕ). get_or c.args.out.now n false) c.loop-i.i h is)

pub loop-i-preserved : goal.loop-i-preserved
loop-i-preserved c = let h : c.loop-i.i < 32 = omega arith in let is : get_or c.args.out.now c.loop-i.i false ≡ true = search rules in
    c.loop-i.invariant ∙ taken_one (λ (n : ℕ). get_or c.args.out.now n false) c.loop-i.i h is

pub returns : goal.returns
returns c = let e : c.loop-i.i ≡ 32 = omega arith in sym (c.loop-i.invariant ∙ free_end (λ (n : ℕ). get_or c.args.out.now n false) c.loop-i.i e)
