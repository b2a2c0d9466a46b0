-- What an object means as plain data: T is an entry, a call with its reply, and S is a state.
use Rattle.std.specs.Prelude.{◌≡◌, ℕ, zero, suc, ◌+◌, ◌<◌, ◌==◌, Bool, false, cond, Option, None, Some, MatchOption}
use Rattle.points.specs.declared.limits.TheConstants.{MAX_HANDS}

pub record Meaning (T S : Type 0) : Type 0 where
  -- what the call of an entry makes of it at a state: the entry with its one reply, or nothing where the state doesn't fix the reply
  pub next : S → T → Option T
  -- the state behind an entry
  pub after : S → T → S
  -- whether the call of an entry is one of its desk's numbered calls
  pub is_numbered : T → Bool
  -- which hand numbers are out
  pub is_out : S → ℕ → Bool

abbrev pub names : Option ℕ → ℕ → Bool
names None n = false
names (Some k) n = k == n

-- the first number from n on, among k, that isn't taken; n + k where all are
unfoldable pub first_free : (ℕ → Bool) → ℕ → ℕ → ℕ
first_free taken zero n = n
first_free taken (suc k) n = cond (taken n) (first_free taken k (n + 1)) n

module _ {T S : Type 0} (m : Meaning T S) where
  -- An entry may come next at a state: it is the one that its call makes; or its call has no fixed reply, and then it leaves the state and meets the object's relation
  abbrev pub MayFollow : (S → T → Type 0) → S → T → Type 0
  MayFollow Meets x t = MatchOption (m.next x t) (Meets x t × (m.after x t ≡ x)) (λ u. t ≡ u)

  -- the lowest hand number that isn't out
  abbrev pub lowest : S → ℕ
  lowest x = first_free (m.is_out x) MAX_HANDS 0

  -- a hand can be made
  abbrev pub HasRoom : S → Type 0
  HasRoom x = lowest x < MAX_HANDS
