-- The change that a replacement makes, as the code finds it: where it stands in the list of changes, and what it makes of them.
use Rattle.std.specs.Prelude.{◌≡◌, ◌≤◌, ◌==◌, ◌&&◌, ◌||◌, List, [], ◌∷◌, ◌++◌, length, drop, map, Bool, not, if◌then◌else◌}
use Rattle.points.specs.declared.point.Point.{Point}
use Rattle.points.specs.Point.{traverse}
use Rattle.points.specs.Place.{extent}
use Rattle.points.specs.Distance.{capped, is_far}
use Rattle.patch.specs.Hunk.{Hunk}
use Rattle.patch.specs.Spliced.{change_at, moved_hunk}
use Rattle.patch.specs.declared.joint.Joint.{Joint}

-- the ends of the last change, or the given point where there is none
abbrev pub last_old_end : Point → List Hunk → Point
last_old_end a [] = a
last_old_end a (h ∷ hs) = last_old_end h.old_end hs

abbrev pub last_new_end : Point → List Hunk → Point
last_new_end b [] = b
last_new_end b (h ∷ hs) = last_new_end h.new_end hs

-- the change, and of the changes p those behind it, moved, are q
pub record Joins (p q : List Hunk) (j : Joint) : Type 0 where
  pub start : Point
  pub from : Point
  pub low : j.first ≤ j.stop
  pub high : j.stop ≤ length p
  pub is : q ≡ change_at start j.new_start j.old_text j.new_text ++ map (moved_hunk from (traverse j.new_start (extent j.new_text))) (drop j.stop p)
  pub within : capped j.new_start ≡ j.new_start
  pub old_start : j.old_start ≡ capped start
  pub old_end : j.old_end ≡ capped (traverse start (extent j.old_text))
  pub new_end : j.new_end ≡ capped (traverse j.new_start (extent j.new_text))
  pub from_is : j.from ≡ capped from

-- it is no change: both its texts are empty
abbrev pub is_empty_joint : Joint → Bool
is_empty_joint j = (length j.old_text == 0) && (length j.new_text == 0)

-- it is one with a coordinate that passes the greatest one
abbrev pub is_far_joint : Joint → Bool
is_far_joint j = not (is_empty_joint j) && (is_far j.old_start || is_far j.old_end || is_far j.new_start || is_far j.new_end)

-- the change, where it is one
abbrev pub joint_change : Joint → List Hunk
joint_change j = if is_empty_joint j then [] else record { old_start = j.old_start; old_end = j.old_end; new_start = j.new_start; new_end = j.new_end; old_text = j.old_text; new_text = j.new_text } ∷ []

-- the change, and those behind it of the changes p, moved
abbrev pub joint_list : Joint → List Hunk → List Hunk
joint_list j p = joint_change j ++ map (moved_hunk j.from j.new_end) (drop j.stop p)
