-- A shelf's places stay as deep as their layers, and its top is live.
use Rattle.std.proofs.Common.{◌≡◌, ℕ, ◌+◌, ◌-◌, ◌<◌, ◌≤◌, Bool, true, false, List, [], ◌∷◌, map, length, Option, Some, None, refl, sym, ap, subst, ◌∙◌, arith}
use Rattle.std.specs.Prelude.{cond, bit_or, eqb, ◌==◌, filter, is_some, IsTrue, IsNone, ◌↔◌}
use Rattle.std.proofs.lemmas.List.Elements.{All-cons, All-head, All-tail, All-push, All-append, All-take, All-drop, All-map, All-weaker, All-filter, All-contains}
use Rattle.std.proofs.lemmas.List.{length-map}
use Rattle.std.proofs.Math.ListN.{get_or-map}
use Rattle.std.proofs.lemmas.Map.Keys.{IsDistinct-from_apart}
use Rattle.std.proofs.lemmas.Map.Steps.{length-le_from_distinct_below}
use Rattle.places.specs.declared.placed.Placed.{Placed}
use Rattle.places.specs.Placed.{placed_at, is_live, parent_of, depth_on, top_id, top_alone, others_of, with_top, without, noted, hands_of, newest_alone, narrowed, quieted, is_kept}
use Rattle.places.specs.Table.{IsPlaced, StandsIn, IsTable}
use Rattle.places.proofs.FindLemmas.{found_all}
use Rattle.places.proofs.StandLemmas.{place_is, below, number_not, number_is, any_found}
use Rattle.chains.specs.Layered.{depth_of, on_base}
use Rattle.layers.specs.declared.versioned.Versioned.{Versioned}
use Rattle.layers.specs.Shelf.{Shelved, HasDepths, layers_at, top_layers}
use Rattle.layers.proofs.GroundLemmas.{live_at, top_found}

abbrev IsDeep : Placed Versioned → Type 0
IsDeep e = e.depth ≡ depth_of e.held.layers

pub layers_there : (s : Shelved) (p : ℕ) (e : Placed Versioned) → placed_at s p ≡ Some e → layers_at s p ≡ e.held.layers
layers_there s p e at = rw (at, layers_at) refl

-- the top is live
pub top_live : (s : Shelved) → IsTable s → IsTrue (is_live s (top_id s).place)
top_live s is = let top = top_found s is in live_at s (top_id s).place top.0 top.1

-- and as deep as its layers
pub top_depth : (s : Shelved) → IsTable s → HasDepths s → (top_id s).depth ≡ depth_of (top_layers s)
top_depth s is deep =
    let top = top_found s is in
    let same = layers_there s (top_id s).place top.0 top.1 in
    sym top.2 ∙ (All-contains IsDeep s top.0 deep top.3 ∙ ap depth_of (sym same))

pub deep_alone : (e : Placed Versioned) → e.depth ≡ depth_of e.held.layers → HasDepths (e ∷ [])
deep_alone e h = All-cons IsDeep e [] h (λ k d within. absurd (omega arith))

pub deep_topped : (s : Shelved) (p : ℕ) (parent : Option ℕ) (x : Versioned) → HasDepths s → depth_on s parent ≡ depth_of x.layers → HasDepths (with_top s p parent x)
deep_topped s p parent x deep h = All-push IsDeep s (record { place = p; age = (top_id s).age + 1; parent = parent; depth = depth_on s parent; mask = 0; held = x }) deep h

noted_at : (place hands : ℕ) (e : Placed Versioned) (b : Bool) → IsDeep e → IsDeep (cond b (record e { mask = bit_or e.mask hands }) e)
noted_at place hands e true h = h
noted_at place hands e false h = h

pub deep_noted : (s : Shelved) (place hands : ℕ) → HasDepths s → HasDepths (map (noted place hands) s)
deep_noted s place hands deep = All-map IsDeep (noted place hands) s (All-weaker IsDeep (λ e. IsDeep (noted place hands e)) (λ e h. noted_at place hands e (e.place == place) h) s deep)

pub deep_quieted : (s : Shelved) (hands : ℕ) → HasDepths s → HasDepths (quieted hands s)
deep_quieted s hands deep = All-append IsDeep (map (without hands) (others_of s)) (top_alone s)
    (All-map IsDeep (without hands) (others_of s) (All-take IsDeep (length s - 1) s deep)) (All-drop IsDeep (length s - 1) s deep)

deep_newest : (es : Shelved) → HasDepths es → HasDepths (newest_alone es)
deep_newest [] h = h
deep_newest (e ∷ es) h = All-cons IsDeep (without (hands_of es) e) (newest_alone es) (All-head IsDeep e es h) (deep_newest es (All-tail IsDeep e es h))

pub deep_narrowed : (s : Shelved) → HasDepths s → HasDepths (narrowed s)
deep_narrowed s deep = All-append IsDeep (newest_alone (others_of s)) (top_alone s) (deep_newest (others_of s) (All-take IsDeep (length s - 1) s deep)) (All-drop IsDeep (length s - 1) s deep)

pub deep_collected : (s : Shelved) → HasDepths s → HasDepths (filter (is_kept s) s)
deep_collected s deep = All-filter (is_kept s) IsDeep s deep

-- ---- what a place stands on
live_there : (o : Option (Placed Versioned)) → is_some o ≡ true → (e : Placed Versioned) × (o ≡ Some e)
live_there None h = cc
live_there (Some e) h = (e, refl)

parent_none : (o : Option ℕ) (s : Shelved) (e : Placed Versioned) → e.parent ≡ o → IsTable s → placed_at s e.place ≡ Some e → StandsIn s e → 1 ≤ e.depth → IsNone o ↔ (e.depth ≡ 1)
parent_none None s e up is at h some = let base : e.depth ≡ 1 = rw up at h in ((λ n. base), (λ d. refl))
parent_none (Some q) s e up is at h some =
    let got = below s is e.place e q at up in
    let more : e.depth ≡ got.0.depth + 1 = got.2.deeper in
    let deep = found_all IsPlaced (λ e. e.place == q) s got.0 got.1 is.numbers in
    ((λ n. absurd (cc)), (λ d. absurd (omega (arith, deep.some))))

parent_found : (s : Shelved) → IsTable s → HasDepths s → (p : ℕ) (e : Placed Versioned) → placed_at s p ≡ Some e → IsNone (parent_of s p) ↔ (depth_of (layers_at s p) ≡ 1)
parent_found s is deep p e at =
    let here = place_is s p e at in
    let own : placed_at s e.place ≡ Some e = ap (placed_at s) here ∙ at in
    let up : parent_of s p ≡ e.parent = rw at refl in
    let depth = found_all IsDeep (λ e. e.place == p) s e at deep in
    let same : e.depth ≡ depth_of (layers_at s p) = depth ∙ ap depth_of (sym (layers_there s p e at)) in
    let some = found_all IsPlaced (λ e. e.place == p) s e at is.numbers in
    let base = parent_none e.parent s e refl is own (found_all (StandsIn s) (λ e. e.place == p) s e at is.over) some.some in
    let P : Option ℕ → ℕ → Type 0 = λ o d. IsNone o ↔ (d ≡ 1) in
    let Q : Option ℕ → Type 0 = λ o. P o (depth_of (layers_at s p)) in
    subst Q (sym up) (subst (P e.parent) same base)

-- the layer at a live place stands on nothing exactly where it is a base
pub parent_is : (s : Shelved) → IsTable s → HasDepths s → (p : ℕ) → IsTrue (is_live s p) → IsNone (parent_of s p) ↔ (depth_of (layers_at s p) ≡ 1)
parent_is s is deep p live = let got = live_there (placed_at s p) live in parent_found s is deep p got.0 got.1

-- ---- how many places there are
abbrev at_none : ℕ → Placed Versioned
at_none p = record { place = p; age = 0; parent = None; depth = 0; mask = 0; held = record { layers = on_base [] []; version = 0 } }

pub few_places : (s : Shelved) → IsTable s → length s ≤ 272
few_places s is =
    let ps : List ℕ = map (λ (e : Placed Versioned). e.place) s in
    let long = length-map s (λ (e : Placed Versioned). e.place) in
    let few = length-le_from_distinct_below ps 272
    (IsDistinct-from_apart eqb ps (λ i j d less within.
    let a = get_or-map (λ (e : Placed Versioned). e.place) s i (at_none d) in
    let b = get_or-map (λ (e : Placed Versioned). e.place) s j (at_none d) in
    let other = is.apart i j (at_none d) less (omega (arith, long)) in
    rw (a, b) (number_not _ _ other)))
    (λ q h.
    let got = any_found (eqb q) ps h in
    let same = number_is q got.0 got.2 in
    let few = All-contains (λ p. p < 272) ps got.0 (All-map (λ p. p < 272) (λ (e : Placed Versioned). e.place) s (All-weaker IsPlaced (λ e. e.place < 272) (λ e h. h.place) s is.numbers)) got.1 in
    omega (arith, few, same)) in
    omega (arith, few, long)
