-- What the calls of a table put together.
use Rattle.std.proofs.Common.{◌≡◌, ℕ, ◌+◌, ◌<◌, ◌≤◌, Bool, false, List, [], ◌∷◌, ◌++◌, get_or, Option, ap, ◌∙◌, arith, All}
use Rattle.std.specs.Prelude.{is_ok, OnErr, if◌then◌else◌}
use Rattle.std.specs.Prelude.{Result, Ok, Err}
use Rattle.places.specs.declared.placed.Placed.{Placed}
use Rattle.places.specs.declared.placed.TopId.{TopId}
use Rattle.places.specs.Placed.{top_id, depth_on, is_kept, with_top}
use Rattle.places.specs.Table.{IsTable}
use Rattle.places.specs.Marking.{marked}
use Rattle.places.proofs.MarkLemmas.{marked_is}

module _ {X : Type 0} where
  -- after the pass what is marked is what is kept
  pub pass_keeps : (t a b : List (Placed X)) (id : TopId) (kept : List Bool) → IsTable t → a ≡ t → b ≡ t → id ≡ top_id b → ((p : ℕ) → p < 272 → get_or kept p false ≡ marked id.place a p) → All (λ e. get_or kept e.place false ≡ is_kept t e) t
  pass_keeps t a b id kept is ea eb eid h = λ k d within.
      let p = (get_or t k d).place in
      let top : id.place ≡ (top_id t).place = ap (λ x. x.place) (eid ∙ ap top_id eb) in
      h p (is.numbers k d within).place ∙ (ap (λ i. marked i a p) top ∙ (ap (λ l. marked (top_id t).place l p) ea ∙ marked_is t is p))

  -- an entry made of what was looked up is the new top
  pub built : (t new a b : List (Placed X)) (id : TopId) (p depth : ℕ) (parent : Option ℕ) (x : X) → a ≡ t → b ≡ t → id ≡ top_id a → depth ≡ depth_on b parent → new ≡ t ++ record { place = p; age = id.age + 1; parent = parent; depth = depth; mask = 0; held = x } ∷ [] → new ≡ with_top t p parent x
  built t new a b id p depth parent x ea eb eid edepth e =
      let age : id ≡ top_id t = eid ∙ ap top_id ea in
      let deep : depth ≡ depth_on t parent = edepth ∙ ap (λ l. depth_on l parent) eb in
      e ∙ (ap (λ i. t ++ record { place = p; age = i.age + 1; parent = parent; depth = depth; mask = 0; held = x } ∷ []) age
      ∙ ap (λ n. t ++ record { place = p; age = (top_id t).age + 1; parent = parent; depth = n; mask = 0; held = x } ∷ []) deep)

-- a push for which there was room
pub had_room : {A U E : Type 0} (r : Result U E) (new all old : A) (len cap : ℕ) → new ≡ (if is_ok r then all else old) → OnErr r (cap ≤ len) → len < cap → new ≡ all
had_room (Ok u) new all old len cap e h room = e
had_room (Err x) new all old len cap e h room = absurd (omega (arith, h))
