use Rattle.std.proofs.Common.{◌≡◌, ℕ, ◌+◌, ◌<◌, ◌≤◌, ◌^◌, ◌==◌, get_or, false, List, Fits, w64, arith, sym}
use Rattle.std.specs.List.{list_any}
use Rattle.std.proofs.lemmas.Bool.Decides.{nat_tests}
use Rattle.std.proofs.lemmas.List.Folds.{list_any_none}
use Rattle.std.proofs.lemmas.List.Elements.{All-from_get_or}
use Rattle.outer.proofs.plan.has_next.Goals as goal

-- no number of 64 bits is one past the last of them
none_past : (xs : List ℕ) (n : ℕ) → ((i : ℕ) → Fits w64 (get_or xs i 0)) → 2 ^ 64 ≤ n → list_any (λ x. x == n) xs ≡ false
none_past xs n fit past =
    list_any_none (λ x. x == n) xs
    (All-from_get_or (λ x. (x == n) ≡ false) xs 0 (λ i h. let low : get_or xs i 0 < 2 ^ 64 = omega (arith, fit i) in grind (arith, nat_tests)))

pub returns-in-None : goal.returns-in-None
returns-in-None c = let past : 2 ^ 64 ≤ c.args.calls + 1 = grind (arith, c.in-None.ensures) in sym (none_past _ _ c.type_inv.fails past)
