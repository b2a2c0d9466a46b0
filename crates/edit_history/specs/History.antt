-- The past and the future of a text.
use Rattle.std.specs.Prelude.{ℕ, ◌-◌, List, [], ◌∷◌, ◌++◌, length, take, drop, slice_get, nat_lt, if◌then◌else◌, Option, None}

-- the steps that can be taken back, and those that can be made again, the next one last
pub record History (X : Type 0) : Type 0 where
  pub past : List X
  pub future : List X

module _ {X : Type 0} where
  -- the next one
  abbrev pub next_of : List X → Option X
  next_of xs = slice_get xs (length xs - 1)

  -- all but the next one
  abbrev pub others_of : List X → List X
  others_of xs = take (length xs - 1) xs

  -- the next one, as a list of one, or nothing where there is none
  abbrev pub next_alone : List X → List X
  next_alone xs = drop (length xs - 1) xs

  -- the latest n
  abbrev pub latest : ℕ → List X → List X
  latest n xs = drop (length xs - n) xs

  -- the oldest one, which has to go for a new one where n are kept already
  abbrev pub oldest_gone : ℕ → List X → Option X
  oldest_gone n xs = if nat_lt (length xs) n then None else slice_get xs 0

  -- a new step goes to the end of the past, of which the latest n are kept, and nothing can be made again
  abbrev pub pushed : ℕ → History X → X → History X
  pushed n h x = record { past = latest n (h.past ++ x ∷ []); future = [] }

  -- the last step of the past goes to the end of the future
  abbrev pub undone : History X → History X
  undone h = record { past = others_of h.past; future = h.future ++ next_alone h.past }

  -- the last step of the future goes to the end of the past
  abbrev pub redone : History X → History X
  redone h = record { past = h.past ++ next_alone h.future; future = others_of h.future }
