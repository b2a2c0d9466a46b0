-- Stretches of an old text, one behind the other: how far the text stays, and what is taken out and put in behind that.
use Rattle.std.specs.Prelude.{ℕ, ◌+◌, ◌-◌, ◌^◌, ◌==◌, ◌&&◌, ◌||◌, ◌≡◌, ◌<◌, IsTrue, List, [], ◌∷◌, ◌++◌, length, map, min, nat_lt, Bool, false, if◌then◌else◌}
use Rattle.points.specs.declared.point.Point.{Point}
use Rattle.points.specs.declared.limits.TheConstants.{MAX_CHANGES}
use Rattle.points.specs.Point.{origin, traverse, traversal}
use Rattle.points.specs.Place.{extent, same_point}
use Rattle.points.specs.Distance.{traverse_capped}
use Rattle.patch.specs.Hunk.{Hunk}
use Rattle.patch.specs.Tagged.{Tagged, tagged_from, untagged}
use Rattle.patch.specs.ChangeList.{reaches_far}
use Rattle.patch.specs.declared.stretch.Stretch.{Stretch}
use Rattle.patch.specs.declared.stretch.Open.{Open}
use Rattle.patch.specs.declared.refusal.PatchRefusal.{PatchRefusal}
use Rattle.patch.specs.declared.refusal.PatchRefusal.TheVariants.{TooFar, TooMany, NoMemory}

-- a stretch: the extent of what stays, and behind it the units taken out and those put in
pub record Part : Type 0 where
  pub kept : Point
  pub old_text : List ℕ
  pub new_text : List ℕ

-- what a lent stretch shows
abbrev pub part_seen : Stretch → Part
part_seen s = record { kept = s.kept; old_text = s.old_text.now; new_text = s.new_text.now }

abbrev pub parts_seen : List Stretch → List Part
parts_seen ss = map part_seen ss

-- the change with these texts that starts at these points; none where both texts are empty. `go` leads from a point over an extent
abbrev pub change_by : (Point → Point → Point) → Point → Point → List ℕ → List ℕ → List Hunk
change_by go a b old new = if (length old == 0) && (length new == 0) then [] else record {
  old_start = a;
  old_end = go a (extent old);
  new_start = b;
  new_end = go b (extent new);
  old_text = old;
  new_text = new;
} ∷ []

-- the changes that stretches make behind one that is still open: it starts at these points and has these texts so far,
-- and a stretch joins it where nothing stays between
abbrev pub laid_by : (Point → Point → Point) → Point → Point → List ℕ → List ℕ → List Part → List Hunk
laid_by go a b old new [] = change_by go a b old new
laid_by go a b old new (p ∷ ps) = if same_point p.kept origin then laid_by go a b (old ++ p.old_text) (new ++ p.new_text) ps
    else change_by go a b old new ++ laid_by go (go (go a (extent old)) p.kept) (go (go b (extent new)) p.kept) p.old_text p.new_text ps

-- the changes that stretches make behind an open change
abbrev pub laid_behind : Open → List Part → List Hunk
laid_behind c ps = laid_by traverse_capped c.old_start c.new_start c.old_text c.new_text ps

-- the changes that stretches make: those with nothing between are one, and those with no texts are none
abbrev pub laid : List Part → List Hunk
laid ps = laid_by traverse origin origin [] [] ps

-- the text s and the tagged text g, which begin at offset i of the old one, are made of these stretches: both keep units of
-- that extent; then s has the units taken out, and g those put in; and so on, and behind the last stretch both keep the rest
abbrev pub AreStretches : ℕ → List Part → List ℕ → Tagged → Type 0
AreStretches i [] s g = g ≡ tagged_from i s
AreStretches i (p ∷ ps) s g = (kept : List ℕ) × (rest : List ℕ) × (more : Tagged) × (extent kept ≡ p.kept) × (s ≡ kept ++ (p.old_text ++ rest))
    × (g ≡ tagged_from i kept ++ (untagged p.new_text ++ more)) × AreStretches (i + length kept + length p.old_text) ps rest more

-- the stretches of changes, the first behind the point a of the old text
abbrev pub parts_of : Point → List Hunk → List Part
parts_of a [] = []
parts_of a (h ∷ hs) = record { kept = traversal h.old_start a; old_text = h.old_text; new_text = h.new_text } ∷ parts_of h.old_end hs

-- a coordinate of one of the changes passes the greatest one
abbrev pub any_far : List Hunk → Bool
any_far [] = false
any_far (h ∷ hs) = reaches_far h || any_far hs

-- why there is no patch with these changes; want of memory has no cause
abbrev pub Refuses : List Hunk → PatchRefusal → Type 0
Refuses hs TooFar = IsTrue (any_far hs)
Refuses hs TooMany = (any_far hs ≡ false) × (MAX_CHANGES < length hs)
Refuses hs NoMemory = Unit {0}
