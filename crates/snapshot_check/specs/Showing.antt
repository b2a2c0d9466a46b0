-- Which takes show a version that they can show, as a test over the versions behind the calls.
use Rattle.std.specs.Prelude.{◌≡◌, ℕ, ◌+◌, ◌-◌, ◌<◌, ◌&&◌, ◌==◌, min, nat_lt, nat_le, List, length, get_or, Bool, true, false, Option, Some, None}
use Rattle.std.specs.List.Sorted.{IsStrictlyIncreasing}
use Rattle.machine.specs.declared.verdict.Place.{Place}
use Rattle.machine.specs.declared.verdict.Place.TheVariants as place
use Rattle.machine.specs.Lawful.{numbers, last_number}
use Rattle.snapshot_check.specs.Takes.{Spot, numbers_before, numbers_behind, first_number}

-- the version is below the next number, if there is one
abbrev pub is_below : ℕ → Option ℕ → Bool
is_below v None = true
is_below v (Some n) = nat_lt v n

-- the version behind the session's last number before the take
abbrev pub version_before : List ℕ → Spot → ℕ
version_before versions s = get_or versions (min (last_number (numbers_before s)) (length versions - 1)) 0

-- the take's version is that of a call or 0, none of the session's numbers before it has a later one, and its next number is above it
abbrev pub is_shown_by : List ℕ → Spot → Bool
is_shown_by versions s = nat_lt s.version (length versions) && ((get_or versions s.version 0 == s.version)
    && (nat_le (version_before versions s) s.version && is_below s.version (first_number (numbers_behind s))))

-- and its answers were found right
abbrev pub is_good : List ℕ → List Bool → ℕ → Spot → Bool
is_good versions right i s = is_shown_by versions s && get_or right i false

-- the first m takes are so; the numbers of their sessions rise
abbrev pub AreGood : List ℕ → List Bool → List Spot → ℕ → Type 0
AreGood versions right spots m = (i : ℕ) (x : Spot) → i < m → x ≡ get_or spots i x → (is_good versions right i x ≡ true) × IsStrictlyIncreasing (numbers x.replies)

-- a place is that of the first take that isn't so
pub record IsNamed (versions : List ℕ) (right : List Bool) (spots : List Spot) (p : Place) : Type 0 where
  pub index : ℕ
  pub spot : Spot
  pub within : index < length spots
  pub at : spot ≡ get_or spots index spot
  pub before : AreGood versions right spots index
  pub fails : is_good versions right index spot ≡ false
  pub named : p ≡ place.Snapshot spot.session (spot.place + 1)
