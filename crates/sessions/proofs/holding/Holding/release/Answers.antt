use Rattle.std.proofs.Common.{◌≡◌, ℕ, ◌<◌, ◌≤◌, List, length, subst, ap, ◌∙◌, arith}
use Rattle.std.specs.Prelude.{map, remove}
use Rattle.sessions.specs.declared.holding.Live.{Live}
use Rattle.sessions.specs.Running.{without_first}
use Rattle.sessions.specs.Holding.{Held, kept_of, place_in}
use Rattle.sessions.proofs.HoldingLemmas.{taken_out, none_out}
use Rattle.sessions.proofs.holding.Holding.release.Goals as goal

pub returns-then-at-len-clause-kept : goal.returns-then-at-len-clause-kept
returns-then-at-len-clause-kept g c =
    let ls : List Live = c.self.inside.live.items in
    let k : ℕ = c.args.number in
    let place : c.place_of-at.result ≡ place_in k ls = c.place_of-at.ensures ∙ ap (λ (l : List Live). place_in k l) c.as_slice.ensures.value in
    let within : place_in k ls < length ls = omega (arith, c.if-at-len.true, c.len.ensures, place) in
    ap (λ (l : List Live). map kept_of l) (c.remove.ensures.items ∙ ap (λ (i : ℕ). remove ls i) place) ∙ (taken_out k ls within ∙ ap (λ (h : Held). without_first k h.kept) c.self.view_is)

pub returns-else-at-len-clause-kept : goal.returns-else-at-len-clause-kept
returns-else-at-len-clause-kept g c =
    let ls : List Live = c.self.inside.live.items in
    let k : ℕ = c.args.number in
    let place : c.place_of-at.result ≡ place_in k ls = c.place_of-at.ensures ∙ ap (λ (l : List Live). place_in k l) c.as_slice.ensures.value in
    let none : length ls ≤ place_in k ls = omega (arith, c.if-at-len.false, c.len.ensures, place) in
    subst (λ (h : Held). h.kept ≡ without_first k h.kept) c.self.view_is (none_out k ls none)
