-- A table of places: what stands at each, oldest first. The last is the top.
use Rattle.std.specs.Prelude.{◌≡◌, ℕ, zero, suc, ◌+◌, ◌-◌, ◌^◌, Bool, not, ◌&&◌, ◌||◌, ◌==◌, cond, List, [], ◌∷◌, ◌++◌, map, length, take, drop, slice_get, find, Option, Some, None, is_some, option_map, option_and_then, nat_lt, bit_and, bit_or, AllPairs}
use Rattle.std.specs.List.{list_any}
use Rattle.std.specs.Option.{unwrap_or}
use Rattle.places.specs.declared.placed.Placed.{Placed}
use Rattle.places.specs.declared.placed.TopId.{TopId}

abbrev pub is_among : ℕ → List ℕ → Bool
is_among p ps = list_any (λ q. q == p) ps

-- the hands of b that aren't in a
abbrev pub hands_without : ℕ → ℕ → ℕ
hands_without a b = bit_and b (2 ^ 64 - 1 - a)

-- the mask of one hand; a mask has room for 64
abbrev pub hand_mask : ℕ → ℕ
hand_mask hand = cond (nat_lt hand 64) (2 ^ hand) 0

module _ {X : Type 0} where
  -- x alone, at place 0
  abbrev pub first : X → List (Placed X)
  first x = record { place = 0; age = 0; parent = None; depth = 1; mask = 0; held = x } ∷ []

  -- what stands at a place
  abbrev pub placed_at : List (Placed X) → ℕ → Option (Placed X)
  placed_at t p = find (λ e. e.place == p) t

  -- whether anything does
  abbrev pub is_live : List (Placed X) → ℕ → Bool
  is_live t p = is_some (placed_at t p)

  -- the place that what stands at a place stands on
  abbrev pub parent_of : List (Placed X) → ℕ → Option ℕ
  parent_of t p = option_and_then (λ e. e.parent) (placed_at t p)

  -- how deep what stands on a place is: one deeper than what stands there, and 1 on nothing
  abbrev pub depth_on : List (Placed X) → Option ℕ → ℕ
  depth_on t None = 1
  depth_on t (Some p) = 1 + unwrap_or (option_map (λ e. e.depth) (placed_at t p)) 0

  -- a place and those below it, at most n of them
  abbrev pub chain_of : List (Placed X) → ℕ → Option ℕ → List ℕ
  chain_of t zero p = []
  chain_of t (suc n) None = []
  chain_of t (suc n) (Some p) = p ∷ chain_of t n (parent_of t p)

  -- the top, and all others
  abbrev pub top_of : List (Placed X) → Option (Placed X)
  top_of t = slice_get t (length t - 1)

  abbrev pub top_alone : List (Placed X) → List (Placed X)
  top_alone t = drop (length t - 1) t

  abbrev pub others_of : List (Placed X) → List (Placed X)
  others_of t = take (length t - 1) t

  abbrev pub id_of : Placed X → TopId
  id_of e = record { place = e.place; age = e.age; depth = e.depth }

  abbrev pub top_id : List (Placed X) → TopId
  top_id t = unwrap_or (option_map id_of (top_of t)) (record { place = 0; age = 0; depth = 0 })

  -- the top and each place with a hand on it are wanted
  abbrev pub is_wanted : List (Placed X) → Placed X → Bool
  is_wanted t e = (e.place == (top_id t).place) || not (e.mask == 0)

  -- a place is kept where it is wanted or stands below one that is
  abbrev pub keeps : List (Placed X) → ℕ → Bool
  keeps t p = list_any (λ w. is_wanted t w && is_among p (chain_of t 8 (Some w.place))) t

  abbrev pub is_kept : List (Placed X) → Placed X → Bool
  is_kept t e = keeps t e.place

  -- how many places are free
  abbrev pub free_of : List (Placed X) → ℕ
  free_of t = 272 - length t

  -- with one more, which is the top
  abbrev pub with_top : List (Placed X) → ℕ → Option ℕ → X → List (Placed X)
  with_top t place parent x = t ++ record { place = place; age = (top_id t).age + 1; parent = parent; depth = depth_on t parent; mask = 0; held = x } ∷ []

  abbrev pub without : ℕ → Placed X → Placed X
  without hands e = record e { mask = hands_without hands e.mask }

  -- more hands at one place
  abbrev pub noted : ℕ → ℕ → Placed X → Placed X
  noted place hands e = cond (e.place == place) (record e { mask = bit_or e.mask hands }) e

  -- the hands of all
  abbrev pub hands_of : List (Placed X) → ℕ
  hands_of [] = 0
  hands_of (e ∷ es) = bit_or (hands_of es) e.mask

  -- each hand stays at the newest alone
  abbrev pub newest_alone : List (Placed X) → List (Placed X)
  newest_alone [] = []
  newest_alone (e ∷ es) = without (hands_of es) e ∷ newest_alone es

  -- all but the top so narrowed
  abbrev pub narrowed : List (Placed X) → List (Placed X)
  narrowed t = newest_alone (others_of t) ++ top_alone t

  -- some hands gone from all but the top
  abbrev pub quieted : ℕ → List (Placed X) → List (Placed X)
  quieted hands t = map (without hands) (others_of t) ++ top_alone t

  -- no two but the top share a hand
  abbrev pub IsNarrow : List (Placed X) → Type 0
  IsNarrow t = AllPairs (λ a b. bit_and a.mask b.mask ≡ 0) (others_of t)
