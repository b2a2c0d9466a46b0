-- What one replacement makes of a list of changes, found in the list alone: the changes that it touches become one, and those behind it move.
use Rattle.std.specs.Prelude.{ℕ, List, [], ◌∷◌, ◌++◌, length, take, drop, map, nat_le, if◌then◌else◌, Option, Some, None}
use Rattle.points.specs.declared.point.Point.{Point}
use Rattle.points.specs.Point.{origin, point_le, point_lt, traverse, traversal}
use Rattle.points.specs.Place.{extent, offset_of}
use Rattle.patch.specs.Hunk.{Hunk}
use Rattle.patch.specs.Fit.{offset_in}
use Rattle.patch.specs.Stretches.{change_by}

-- the change that starts at these points of the old and the new text; none where both texts are empty
abbrev pub change_at : Point → Point → List ℕ → List ℕ → List Hunk
change_at = change_by traverse

-- a change moved with the place `from` in the new text that has become `to`
abbrev pub moved_hunk : Point → Point → Hunk → Hunk
moved_hunk from to h = record {
  old_start = h.old_start;
  old_end = h.old_end;
  new_start = traverse to (traversal h.new_start from);
  new_end = traverse to (traversal h.new_end from);
  old_text = h.old_text;
  new_text = h.new_text;
}

-- what replaced units absorb: the old units behind them, the new units of the last absorbed change that stand behind them, and the changes behind
pub record Absorption : Type 0 where
  pub mid : List ℕ
  pub post : List ℕ
  pub rest : List Hunk

-- an absorption of these parts
abbrev pub absorption_made : List ℕ → List ℕ → List Hunk → Absorption
absorption_made mid post rest = record { mid = mid; post = post; rest = rest }

-- one change more, which starts k units behind the start of the units d, or isn't reached
abbrev pub absorption_step : Option ℕ → List ℕ → Hunk → List Hunk → (ℕ → Absorption) → Absorption
absorption_step None d h hs more = absorption_made d [] (h ∷ hs)
absorption_step (Some k) d h hs more = if nat_le (length (drop k d)) (length h.new_text) then absorption_made (take k d ++ h.old_text) (drop (length (drop k d)) h.new_text) hs
    else absorption_made (take k d ++ (h.old_text ++ (more k).mid)) (more k).post (more k).rest

-- what the units d absorb that start at the point `place` of the new text
abbrev pub absorption : Point → List ℕ → List Hunk → Absorption
absorption place d [] = absorption_made d [] []
absorption place d (h ∷ hs) = absorption_step (offset_of d (traversal h.new_start place)) d h hs (λ k. absorption h.new_end (drop (length h.new_text) (drop k d)) hs)

-- the change that starts at these points and has the new units `pre` before the replacement, and those behind it
abbrev pub one_change : Point → Point → List ℕ → List ℕ → List ℕ → Absorption → List Hunk
one_change a b pre deleted inserted c = change_at a b c.mid (pre ++ inserted ++ c.post)
    ++ map (moved_hunk (traverse b (extent (pre ++ deleted ++ c.post))) (traverse b (extent (pre ++ inserted ++ c.post)))) c.rest

-- no change before the place `start` is touched: the new one starts there
abbrev pub spliced_before : Point → Point → Point → List ℕ → List ℕ → List Hunk → List Hunk
spliced_before a b start deleted inserted hs = one_change (traverse a (traversal start b)) start [] deleted inserted (absorption start deleted hs)

-- the new units of a change before a place in it
abbrev pub units_before : Point → Hunk → List ℕ
units_before start h = take (offset_in h.new_text (traversal start h.new_start)) h.new_text

-- the place stands in the first change, or at one of its ends
abbrev pub spliced_in : Point → List ℕ → List ℕ → Hunk → List Hunk → List Hunk
spliced_in start deleted inserted h hs = one_change h.old_start h.new_start (units_before start h) deleted inserted (absorption h.new_start (units_before start h ++ deleted) (h ∷ hs))

-- the changes after one replacement more; a and b are the ends of the change before them, or the origin
abbrev pub spliced_from : Point → Point → Point → List ℕ → List ℕ → List Hunk → List Hunk
spliced_from a b start deleted inserted [] = spliced_before a b start deleted inserted []
spliced_from a b start deleted inserted (h ∷ hs) = if point_lt h.new_end start then h ∷ spliced_from h.old_end h.new_end start deleted inserted hs
    else (if point_le h.new_start start then spliced_in start deleted inserted h hs else spliced_before a b start deleted inserted (h ∷ hs))

-- the changes of a patch after one replacement more
abbrev pub spliced : List Hunk → Point → List ℕ → List ℕ → List Hunk
spliced p start deleted inserted = spliced_from origin origin start deleted inserted p
