use Rattle.std.proofs.Common.{◌≡◌, ℕ, ◌+◌, ◌<◌, ◌++◌, nat_lt, true, Option, subst, arith}
use Rattle.std.proofs.lemmas.Bool.Decides.{nat_tests}
use Rattle.chains.specs.Stand.{tags_at}
use Rattle.chains.specs.Weaving.{Weaves}
use Rattle.chains.proofs.SquashLemmas.{too_large}
use Rattle.chains.proofs.squash.puts_too_much.Goals as goal

less : (a b : ℕ) → nat_lt a b ≡ true → a < b
less a b e = grind (arith, nat_tests)

pub returns-in-None : goal.returns-in-None
returns-in-None c = λ base whole left h e. let part = c.args.stretch.now.part in let w = c.args.weaver.now in
    too_large base part whole left w (subst (λ (b : Option ℕ). Weaves base whole (tags_at part b ++ left) w) c.in-None.is h)
    (omega (arith, less 65536 (c.len.result + c.len-in-None.result) e, c.len.ensures.value, c.len-in-None.ensures.value))
