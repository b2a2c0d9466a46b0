use Rattle.std.proofs.Common.{◌∙◌, ◌+◌, ◌-◌, ℕ, List, map, ◌++◌, sym, ap, arith}
use Rattle.line_text.specs.Starts.{starts_of}
use Rattle.line_text.proofs.PartLemmas.{part_can_move, appended_starts}
use Rattle.line_text.proofs.parts.append_units.Goals as goal

pub append_starts-requires-clause-moves : goal.append_starts-requires-clause-moves
append_starts-requires-clause-moves c = part_can_move c.args.offset c.args.more.now c.args.more_starts.now c.len-len.result c.requires.more_kept (omega arith)

pub returns-clause-ok_starts : goal.returns-clause-ok_starts
returns-clause-ok_starts c = c.append_starts.ensures
    ∙ (ap (λ (xs : List ℕ). xs ++ map (λ s. s - c.args.offset + c.len-len.result) c.args.more_starts.now) c.make_room.ensures.items
    ∙ (appended_starts c.args.units.now.items c.args.starts.now.items c.args.more.now c.args.more_starts.now c.args.offset c.len-len.result c.requires.kept c.requires.more_kept (omega arith)
    ∙ ap starts_of (sym c.in_ok-extend_from_slice.ensures.items)))
