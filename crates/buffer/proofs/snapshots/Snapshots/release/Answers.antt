use Rattle.std.proofs.Common.{◌≡◌, ℕ, ◌<◌, ◌≤◌, List, length, subst, ap, ◌∙◌, arith}
use Rattle.std.specs.Prelude.{map, remove}
use Rattle.machine.specs.Plain.{Kept}
use Rattle.buffer.specs.declared.snapshots.Live.{Live}
use Rattle.buffer.specs.Reads.{without_first}
use Rattle.buffer.specs.Live.{kept_of, place_in}
use Rattle.buffer.proofs.SnapshotLemmas.{taken_out, none_out}
use Rattle.buffer.proofs.snapshots.Snapshots.release.Goals as goal

pub returns-then-at-len-clause-snapshots : goal.returns-then-at-len-clause-snapshots
returns-then-at-len-clause-snapshots g c =
    let ls : List Live = c.self.inside.live.items in
    let k : ℕ = c.args.number in
    let place : c.place_of-at.result ≡ place_in k ls = c.place_of-at.ensures ∙ ap (λ (l : List Live). place_in k l) c.as_slice.ensures.value in
    let within : place_in k ls < length ls = omega (arith, c.if-at-len.true, c.len.ensures, place) in
    ap (λ (l : List Live). map kept_of l) (c.remove.ensures.items ∙ ap (λ (i : ℕ). remove ls i) place) ∙ (taken_out k ls within ∙ ap (λ (ks : List Kept). without_first k ks) c.self.view_is)

pub returns-else-at-len-clause-snapshots : goal.returns-else-at-len-clause-snapshots
returns-else-at-len-clause-snapshots g c =
    let ls : List Live = c.self.inside.live.items in
    let k : ℕ = c.args.number in
    let place : c.place_of-at.result ≡ place_in k ls = c.place_of-at.ensures ∙ ap (λ (l : List Live). place_in k l) c.as_slice.ensures.value in
    let none : length ls ≤ place_in k ls = omega (arith, c.if-at-len.false, c.len.ensures, place) in
    subst (λ (ks : List Kept). ks ≡ without_first k ks) c.self.view_is (none_out k ls none)
