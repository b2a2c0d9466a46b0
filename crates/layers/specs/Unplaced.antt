-- A layer that stands at no place yet.
use Rattle.std.specs.Prelude.{ℕ, ◌+◌, ◌-◌, ◌^◌, ◌<◌, ◌≤◌}
use Rattle.places.specs.declared.placed.TopId.{TopId}
use Rattle.chains.specs.Layered.{Layered, depth_of}

-- a layer with those below it, its version, and the top that it was built on
pub record Unplaced : Type 0 where
  pub layers : Layered
  pub version : ℕ
  pub on : TopId

-- there is something in the chain of this top on which these layers' newest can stand, and a top can come after it
pub record CanStandOn (v : Layered) (on : TopId) : Type 0 where
  pub near : depth_of v ≤ on.depth + 1
  pub shallow : depth_of v ≤ 8
  pub young : on.age < 2 ^ 64 - 1
