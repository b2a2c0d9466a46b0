-- What a new layer stands on is live, and one less deep.
use Rattle.std.proofs.Common.{◌≡◌, ℕ, zero, suc, ◌+◌, ◌<◌, ◌≤◌, Bool, true, false, cond, [], Option, Some, None, refl, sym, ap, subst, ◌∙◌, arith, Contains}
use Rattle.std.specs.Prelude.{find, nat_lt, ◌==◌, IfSome, IsTrue}
use Rattle.std.proofs.lemmas.Bool.Decides.{nat_tests}
use Rattle.std.proofs.lemmas.List.Elements.{All-contains}
use Rattle.places.specs.declared.placed.Placed.{Placed}
use Rattle.places.specs.Placed.{placed_at, is_live, parent_of, depth_on, top_id, chain_of}
use Rattle.places.specs.Table.{IsPlaced, StandsIn, IsTable}
use Rattle.places.proofs.FindLemmas.{found_all}
use Rattle.places.proofs.StandLemmas.{here_is, top_there, below}
use Rattle.places.specs.declared.placed.TopId.{TopId}
use Rattle.chains.specs.Layered.{Layered, depth_of}
use Rattle.layers.specs.Unplaced.{CanStandOn}
use Rattle.layers.specs.Shelf.{Shelved, depth_at, ground_of}
use Rattle.layers.specs.declared.versioned.Versioned.{Versioned}

-- the place is live and one less deep than this, or is none and this is a base's depth
pub record IsGround (s : Shelved) (depth : ℕ) (o : Option ℕ) : Type 0 where
  pub live : IfSome o (λ p. IsTrue (is_live s p))
  pub deep : depth_on s o ≡ depth

pub live_at : (s : Shelved) (p : ℕ) (e : Placed Versioned) → placed_at s p ≡ Some e → IsTrue (is_live s p)
live_at s p e at = rw at refl

depth_there : (s : Shelved) (p : ℕ) (e : Placed Versioned) → placed_at s p ≡ Some e → depth_on s (Some p) ≡ e.depth + 1
depth_there s p e at = rw at (omega arith)

depth_is : (s : Shelved) (p : ℕ) (e : Placed Versioned) → placed_at s p ≡ Some e → depth_at s p ≡ e.depth
depth_is s p e at = rw at refl

here_at : (s : Shelved) (p : ℕ) (e : Placed Versioned) → placed_at s p ≡ Some e → (depth : ℕ) → e.depth + 1 ≡ depth → IsGround s depth (Some p)
here_at s p e at depth same = record { live = live_at s p e at; deep = depth_there s p e at ∙ same }

none_chain : (s : Shelved) (n : ℕ) → chain_of s n None ≡ []
none_chain s zero = refl
none_chain s (suc n) = refl

-- a walk down a chain comes to the place that is one less deep
Walks : Shelved → ℕ → ℕ → Type 0
Walks s n depth = (p : ℕ) (e : Placed Versioned) → placed_at s p ≡ Some e → e.depth ≤ n → depth ≤ e.depth + 1 → IsGround s depth (find (λ q. nat_lt (depth_at s q) depth) (chain_of s n (Some p)))

down : (s : Shelved) → IsTable s → (n p : ℕ) (e : Placed Versioned) → placed_at s p ≡ Some e → e.depth ≤ suc n → (depth : ℕ) → 1 ≤ depth → depth ≤ e.depth → (o : Option ℕ) → e.parent ≡ o → StandsIn s e → Walks s n depth → IsGround s depth (find (λ q. nat_lt (depth_at s q) depth) (chain_of s n o))
unfolding Walks
down s is n p e at within depth some deep None up h walks =
    let base : e.depth ≡ 1 = rw up at h in
    rw (none_chain s n) (record { live = tt; deep = omega arith })
down s is n p e at within depth some deep (Some q) up h walks =
    let got = below s is p e q at up in
    let one : e.depth ≡ got.0.depth + 1 = got.2.deeper in
    walks q got.0 got.1 (omega arith) (omega arith)

step : (s : Shelved) (p : ℕ) (e : Placed Versioned) → placed_at s p ≡ Some e → (n depth : ℕ) → depth ≤ e.depth + 1 → (b : Bool) → nat_lt (depth_at s p) depth ≡ b → (depth ≤ e.depth → IsGround s depth (find (λ q. nat_lt (depth_at s q) depth) (chain_of s n (parent_of s p)))) → IsGround s depth (cond b (Some p) (find (λ q. nat_lt (depth_at s q) depth) (chain_of s n (parent_of s p))))
step s p e at n depth near true test rest = let is = depth_is s p e at in let less : depth_at s p < depth = grind (arith, nat_tests) in here_at s p e at depth (omega (arith, is))
step s p e at n depth near false test rest = let is = depth_is s p e at in let more : depth ≤ depth_at s p = grind (arith, nat_tests) in rest (omega (arith, is))

walk : (s : Shelved) → IsTable s → (depth : ℕ) → 1 ≤ depth → (n : ℕ) → Walks s n depth
unfolding Walks
walk s is depth some zero p e at within near = let h = found_all IsPlaced (λ e. e.place == p) s e at is.numbers in absurd (omega (arith, h.some))
walk s is depth some (suc n) p e at within near =
    step s p e at n depth near (nat_lt (depth_at s p) depth) refl (λ deep.
    let up : parent_of s p ≡ e.parent = rw at refl in
    rw up (down s is n p e at within depth some deep e.parent refl (found_all (StandsIn s) (λ e. e.place == p) s e at is.over) (walk s is depth some n)))

-- the top of a table is found at its place
pub top_found : (s : Shelved) → IsTable s → (e : Placed Versioned) × (placed_at s (top_id s).place ≡ Some e) × (e.depth ≡ (top_id s).depth) × Contains s e
top_found s is =
    let top = top_there s is.some in
    let e = top.0 in
    let place : (top_id s).place ≡ e.place = rw top.2 refl in
    let depth : e.depth ≡ (top_id s).depth = rw top.2 refl in
    (e, (rw place (here_is s is e top.1)), depth, top.1)

-- what a layer stands on, where it is at most one deeper than the top
pub ground_is : (s : Shelved) → IsTable s → (depth : ℕ) → 1 ≤ depth → depth ≤ (top_id s).depth + 1 → IsGround s depth (ground_of s depth)
unfolding Walks
ground_is s is depth some near =
    let top = top_found s is in
    let h = All-contains IsPlaced s top.0 is.numbers top.3 in
    walk s is depth some 8 (top_id s).place top.0 top.1 h.shallow (omega (arith, top.2))

-- what was found from the top on, at the depth of new layers
pub ground_found : (s : Shelved) → IsTable s → (v : Layered) (on : TopId) → CanStandOn v on → on ≡ top_id s → (ground : Option ℕ) (top depth : ℕ) → top ≡ (top_id s).place → depth ≡ depth_of v
    → ground ≡ find (λ p. nat_lt (depth_at s p) depth) (chain_of s 8 (Some top)) → (ground ≡ ground_of s (depth_of v)) × IsGround s (depth_of v) ground
ground_found s is v on can still ground top depth at deep found =
    let same : ground ≡ ground_of s (depth_of v) = found ∙ (ap (λ d. find (λ p. nat_lt (depth_at s p) d) (chain_of s 8 (Some top))) deep ∙ ap (λ q. find (λ p. nat_lt (depth_at s p) (depth_of v)) (chain_of s 8 (Some q))) at) in
    let near : on.depth ≡ (top_id s).depth = ap (λ t. t.depth) still in
    let is_ground = ground_is s is (depth_of v) (omega arith) (omega (arith, can.near, near)) in
    let P : Option ℕ → Type 0 = λ o. IsGround s (depth_of v) o in
    (same, subst P (sym same) is_ground)
