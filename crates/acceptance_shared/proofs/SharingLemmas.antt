-- The desks of a new buffer.
use Rattle.std.proofs.Common.{◌≡◌, ℕ, ◌<◌, List, [], ◌++◌, refl, subst, arith, length-append}
use Rattle.std.proofs.Math.ListN.{get_or-append}
use Rattle.atomic_table.specs.declared.badge.Badge.{Badge}
use Rattle.turn_table.specs.Views.{part}
use Rattle.turn_table.specs.Openings.{AreDealt, new_desk}
use Rattle.shared_buffer.specs.Tokens.{Opening, Known, IsDeskOf}
use Rattle.acceptance_shared.specs.Sharing.{AreDesksOf}

-- the desks of a new buffer
pub are_desks : (o : Opening) (n : ℕ) (ds : List (Badge Known)) → AreDealt o.table new_desk n ds → AreDesksOf o ds
are_desks o n ds all k d h = let inside : k < n = subst (λ z. k < z) all.len h in (all.tables k d inside, (new_desk k, all.views k d inside, record { first = part k []; others = []; role = refl; rests = refl }))

-- the desks before the last ones
pub are_front : (o : Opening) (ds xs ys : List (Badge Known)) → ds ≡ xs ++ ys → AreDesksOf o ds → AreDesksOf o xs
are_front o ds xs ys is all k d h = let both : AreDesksOf o (xs ++ ys) = subst (AreDesksOf o) is all in let long = length-append xs ys in subst (IsDeskOf o) (get_or-append xs ys d k h) (both k d (omega arith))
