use Rattle.points.proofs.OffsetLemmas.{point_at_le}
use Rattle.buffer.proofs.TextLemmas.{ends_behind, start_is, end_is}
use Rattle.buffer.proofs.change.change.Goals as goal

pub new-requires : goal.new-requires
new-requires c =
    let at = c.requires.places in
    rw (start_is c.args.text.now c.args.from c.args.to at, end_is c.args.text.now c.args.from c.args.to at) (point_at_le c.args.text.now c.args.from.offset c.args.to.offset at.order at.within)

pub new-requires-2 : goal.new-requires-2
new-requires-2 c =
    let at = c.requires.places in
    rw (start_is c.args.text.now c.args.from c.args.to at, c.point_at-new_end.ensures, c.len.ensures)
    (ends_behind c.args.text.now c.args.from.offset c.args.to.offset c.args.new_text c.put.new.self at.order at.within c.in_ok-put.ensures.ok)
