-- Two patches merged in one pass, with no text: the stretches of the first one's old text that both make in turn.
use Rattle.std.specs.Prelude.{◌≡◌, ℕ, ◌==◌, ◌||◌, not, true, List, [], ◌∷◌, ◌++◌, length, take, drop, map, nat_le, Bool, if◌then◌else◌, Option, Some, None}
use Rattle.points.specs.declared.point.Point.{Point}
use Rattle.points.specs.Point.{origin, point_le, traversal}
use Rattle.points.specs.Place.{offset_of}
use Rattle.patch.specs.Hunk.{Hunk}
use Rattle.patch.specs.Fit.{offset_in}
use Rattle.patch.specs.Stretches.{Part}
use Rattle.patch_algebra.specs.declared.middle.Middle.{Middle}

-- a change of the first patch, as it stands in the text between the two: where its new text stands there, and its two texts
pub record Between : Type 0 where
  pub start : Point
  pub end : Point
  pub old_text : List ℕ
  pub new_text : List ℕ

-- a change of the first patch as such
abbrev pub between : Hunk → Between
between h = record { start = h.new_start; end = h.new_end; old_text = h.old_text; new_text = h.new_text }

-- what a lent one shows
abbrev pub between_seen : Middle → Between
between_seen m = record { start = m.start; end = m.end; old_text = m.old_text.now; new_text = m.new_text.now }

-- a list of them
abbrev pub betweens_seen : List Middle → List Between
betweens_seen ms = map between_seen ms

-- a stretch up to `to` from `from`, with these texts
abbrev pub part_to : Point → Point → List ℕ → List ℕ → Part
part_to from to old new = record { kept = traversal to from; old_text = old; new_text = new }

-- a change, behind the place `place`
abbrev pub part_between : Point → Between → Part
part_between place m = part_to place m.start m.old_text m.new_text

-- changes of which the first stands behind the place `place`
abbrev pub parts_between : Point → List Between → List Part
parts_between place [] = []
parts_between place (m ∷ ms) = part_between place m ∷ parts_between m.end ms

-- what stands before a place: the stretches, where the last ends, and the changes from the place on
pub record Opening : Type 0 where
  pub parts : List Part
  pub place : Point
  pub rest : List Between

-- such an opening, of its three parts
abbrev pub opened : List Part → Point → List Between → Opening
opened parts place rest = record { parts = parts; place = place; rest = rest }

-- the offset in a change's new text of a place in it
abbrev pub cut_offset : Point → Between → ℕ
cut_offset to m = offset_in m.new_text (traversal to m.start)

-- what is left of a change from `start` on: these new units
abbrev pub left_of : Point → Between → List ℕ → Between
left_of start m units = record { start = start; end = m.end; old_text = []; new_text = units }

-- what stands before the place `to`: a change that reaches past it is cut there
abbrev pub opening : Point → Point → List Between → Opening
opening place to [] = opened [] place []
opening place to (m ∷ ms) = if point_le to m.start then opened [] place (m ∷ ms)
    else (if point_le m.end to then (let r = opening m.end to ms in opened (part_between place m ∷ r.parts) r.place r.rest)
    else opened (part_to place m.start m.old_text (take (cut_offset to m) m.new_text) ∷ []) to (left_of to m (drop (cut_offset to m) m.new_text) ∷ ms))

-- the first change, if any, starts at the place `to` or behind it, or reaches past it
abbrev pub stops_at : Point → List Between → Bool
stops_at to [] = true
stops_at to (m ∷ ms) = point_le to m.start || not (point_le m.end to)

-- what stands before `to` behind these stretches, this place and these changes is that behind those
pub record Opens (to : Point) (before : List Part) (place : Point) (ms : List Between) (before' : List Part) (place' : Point) (ms' : List Between) : Type 0 where
  pub parts_is : before' ++ (opening place' to ms').parts ≡ before ++ (opening place to ms).parts
  pub place_is : (opening place' to ms').place ≡ (opening place to ms).place
  pub rest_is : (opening place' to ms').rest ≡ (opening place to ms).rest

-- the removal of replaced units of the text between: the stretches that take out what stands behind them, and the changes that are left
pub record Removal : Type 0 where
  pub parts : List Part
  pub rest : List Between

-- such a removal, of its two parts
abbrev pub removal_made : List Part → List Between → Removal
removal_made parts rest = record { parts = parts; rest = rest }

-- units taken out where nothing is kept before them
abbrev pub taken_out : List ℕ → Part
taken_out units = record { kept = origin; old_text = units; new_text = [] }

-- the changes that are left behind a change that is taken along, of which these new units are left
abbrev pub left_behind : Point → Between → List ℕ → List Between → List Between
left_behind end m units ms = if length units == 0 then ms else left_of end m units ∷ ms

-- one change more, which starts k units behind the start of the units d, or isn't reached
abbrev pub removal_step : Point → Option ℕ → List ℕ → Between → List Between → (ℕ → Removal) → Removal
removal_step end None d m ms more = removal_made (taken_out d ∷ []) (m ∷ ms)
removal_step end (Some k) d m ms more = if nat_le (length (drop k d)) (length m.new_text)
    then removal_made (taken_out (take k d) ∷ taken_out m.old_text ∷ []) (left_behind end m (drop (length (drop k d)) m.new_text) ms)
    else (let r = more k in removal_made (taken_out (take k d) ∷ taken_out m.old_text ∷ r.parts) r.rest)

-- the removal of the units d that start at the place `place` and end at `end`
abbrev pub removal : Point → Point → List ℕ → List Between → Removal
removal end place d [] = removal_made (taken_out d ∷ []) []
removal end place d (m ∷ ms) = removal_step end (offset_of d (traversal m.start place)) d m ms (λ k. removal end m.end (drop (length m.new_text) (drop k d)) ms)

-- the stretches of both patches, behind a place in the text between: `ms` is left of the first, and the second's changes follow
abbrev pub merged : Point → List Between → List Hunk → List Part
merged place ms [] = parts_between place ms
merged place ms (h ∷ qs) = let o = opening place h.old_start ms in let c = removal h.old_end h.old_start h.old_text o.rest in
    o.parts ++ part_to o.place h.old_start [] h.new_text ∷ (c.parts ++ merged h.old_end c.rest qs)
