use Rattle.std.proofs.Common.{◌≡◌, ℕ, ◌<◌, ◌≤◌, List, length, get_or, Option, sym, ap, ◌∙◌, arith}
use Rattle.std.specs.Prelude.{find}
use Rattle.machine.specs.Plain.{Kept}
use Rattle.buffer.specs.declared.snapshots.Live.{Live}
use Rattle.buffer.specs.Reads.{has_number}
use Rattle.buffer.specs.Live.{place_in}
use Rattle.buffer.proofs.SnapshotLemmas.{texts, found_there, found_none}
use Rattle.buffer.proofs.snapshots.Snapshots.find.Goals as goal

pub returns-then-at-len : goal.returns-then-at-len
returns-then-at-len c =
    let ls : List Live = c.self.inside.live.items in
    let k : ℕ = c.args.number in
    let place : c.place_of-at.result ≡ place_in k ls = c.place_of-at.ensures ∙ ap (λ (l : List Live). place_in k l) c.as_slice.ensures.value in
    let here : c.index.result.now ≡ get_or ls (place_in k ls) c.index.result.now = c.index.ensures ∙ ap (λ (i : ℕ). get_or ls i c.index.result.now) place in
    let within : place_in k ls < length ls = omega (arith, c.if-at-len.true, c.len.ensures, place) in
    sym (ap (λ (ks : List Kept). texts (find (has_number k) ks)) (sym c.self.view_is) ∙ ap (λ (o : Option Kept). texts o) (found_there k ls c.index.result.now within here))

pub returns-else-at-len : goal.returns-else-at-len
returns-else-at-len c =
    let ls : List Live = c.self.inside.live.items in
    let k : ℕ = c.args.number in
    let place : c.place_of-at.result ≡ place_in k ls = c.place_of-at.ensures ∙ ap (λ (l : List Live). place_in k l) c.as_slice.ensures.value in
    let none : length ls ≤ place_in k ls = omega (arith, c.if-at-len.false, c.len.ensures, place) in
    sym (ap (λ (ks : List Kept). texts (find (has_number k) ks)) (sym c.self.view_is) ∙ ap (λ (o : Option Kept). texts o) (found_none k ls none))
