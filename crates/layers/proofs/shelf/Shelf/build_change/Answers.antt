use Rattle.std.proofs.Common.{◌≡◌, ◌+◌, List, ℕ, length, sym, ap, subst, ◌∙◌, arith}
use Rattle.patch.specs.Hunk.{Hunk, hunk_of}
use Rattle.chains.specs.Layered.{whole_text}
use Rattle.chains.specs.Changes.{CanReplace}
use Rattle.layers.specs.Shelf.{top_text}
use Rattle.layers.specs.Building.{turned}
use Rattle.layers.proofs.BuildLemmas.{found_spot, change_replaces}
use Rattle.layers.proofs.shelf.Shelf.build_change.Goals as goal

pub changed-requires : goal.changed-requires
changed-requires c =
    let t : List ℕ = top_text c.args.self.now in
    let h : Hunk = turned c.args.back (hunk_of c.args.change.now) in
    let can = c.requires in
    let within = can.stands.within in
    let from = found_spot t (whole_text c.look.result.now) (ap whole_text c.look.ensures) c.side_of-side.result.range.start h.old_start c.side_of-side.ensures.start c.spot_of-from.result c.spot_of-from.ensures can.at (omega arith) can.stands.start in
    let to = found_spot t (whole_text c.look-2.result.now) (ap whole_text c.look-2.ensures) c.side_of-side.result.range.end h.old_end c.side_of-side.ensures.end c.spot_of-to.result c.spot_of-to.ensures (can.at + length h.old_text) within can.stands.end in
    let put : c.in_ok-put.put ≡ h.new_text = c.in_ok-put.ensures ∙ c.side_of-side.ensures.put in
    let P : List ℕ → Type 0 = λ us. CanReplace t c.spot_of-from.result c.spot_of-to.result us in
    subst P (sym put) (change_replaces t h can c.spot_of-from.result c.spot_of-to.result from to)
