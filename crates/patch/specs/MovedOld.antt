-- A patch whose old text changes underneath: a range of it, from `start` up to `old_end`, becomes one from `start` up to `new_end`.
use Rattle.std.specs.Prelude.{IsTrue, List, [], ◌∷◌, ◌++◌, if◌then◌else◌, Option, Some, None}
use Rattle.points.specs.declared.point.Point.{Point}
use Rattle.points.specs.Point.{origin, point_le, traverse, traversal}
use Rattle.points.specs.Place.{extent, same_point}
use Rattle.patch.specs.Hunk.{Hunk}
use Rattle.patch.specs.Stretches.{any_far}
use Rattle.patch.specs.declared.refusal.PatchRefusal.{PatchRefusal}
use Rattle.patch.specs.declared.refusal.PatchRefusal.TheVariants.{TooFar, TooMany, NoMemory}

-- a point at `old_end` or behind it, moved as `old_end` moves to `new_end`
abbrev pub moved_with : Point → Point → Point → Point
moved_with old_end new_end point = traverse new_end (traversal point old_end)

-- where a kept change's old range starts, of which these are the ends: one that ends at `start` or before it stays, else
-- one that starts at `old_end` or behind it moves; none for every other, which goes
abbrev pub kept_start : Point → Point → Point → Point → Point → Option Point
kept_start start old_end new_end from to = if point_le to start then Some from else (if point_le old_end from then Some (moved_with old_end new_end from) else None)

-- a change whose old text starts at this point
abbrev pub with_start : Point → Hunk → Hunk
with_start start h = record {
  old_start = start;
  old_end = traverse start (extent h.old_text);
  new_start = h.new_start;
  new_end = h.new_end;
  old_text = h.old_text;
  new_text = h.new_text;
}

-- a change more where it is kept
abbrev pub with_kept : Option Point → Hunk → List Hunk → List Hunk
with_kept None h ks = ks
with_kept (Some start) h ks = with_start start h ∷ ks

-- the changes that are kept
abbrev pub kept_of : Point → Point → Point → List Hunk → List Hunk
kept_of start old_end new_end [] = []
kept_of start old_end new_end (h ∷ hs) = with_kept (kept_start start old_end new_end h.old_start h.old_end) h (kept_of start old_end new_end hs)

-- changes with their new ranges found anew: the first has these ends of the two texts before it
abbrev pub placed : Point → Point → List Hunk → List Hunk
placed a b [] = []
placed a b (h ∷ hs) = let start = traverse b (traversal h.old_start a) in let end = traverse start (extent h.new_text) in record {
  old_start = h.old_start;
  old_end = h.old_end;
  new_start = start;
  new_end = end;
  old_text = h.old_text;
  new_text = h.new_text;
} ∷ placed h.old_end end hs

-- two changes that touch, as one
abbrev pub both : Hunk → Hunk → Hunk
both h k = record {
  old_start = h.old_start;
  old_end = k.old_end;
  new_start = h.new_start;
  new_end = k.new_end;
  old_text = h.old_text ++ k.old_text;
  new_text = h.new_text ++ k.new_text;
}

-- changes behind a first one, each of which joins the one before it where they touch
abbrev pub joined_from : Hunk → List Hunk → List Hunk
joined_from h [] = h ∷ []
joined_from h (k ∷ ks) = if same_point h.old_end k.old_start then joined_from (both h k) ks else h ∷ joined_from k ks

-- changes of which those that touch are one
abbrev pub joined : List Hunk → List Hunk
joined [] = []
joined (h ∷ hs) = joined_from h hs

-- the patch after the move
abbrev pub moved_old : List Hunk → Point → Point → Point → List Hunk
moved_old p start old_end new_end = joined (placed origin origin (kept_of start old_end new_end p))

-- why the patch isn't moved; it never has too many changes, and want of memory has no cause
abbrev pub RefusesMove : List Hunk → PatchRefusal → Type 0
RefusesMove hs TooFar = IsTrue (any_far hs)
RefusesMove hs TooMany = ⊥
RefusesMove hs NoMemory = Unit {0}
