-- A patch's view holds its list of changes.
use Rattle.std.proofs.Common.{◌≡◌, List, ap}
use Rattle.patch.specs.Hunk.{Hunk, PatchView}

pub changes_seen : (hs : List Hunk) (v : PatchView) → record { changes = hs } ≡ v → hs ≡ v.changes
changes_seen hs v is = ap (λ (x : PatchView). x.changes) is
