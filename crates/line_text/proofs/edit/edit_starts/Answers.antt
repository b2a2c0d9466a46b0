use Rattle.std.proofs.Common.{◌+◌, ◌-◌, ◌≡◌, ◌∙◌, length, take, drop, sym, subst, rules}
use Rattle.std.proofs.lemmas.List.{take_rest}
use Rattle.std.proofs.lemmas.Slice.{overwrites}
use Rattle.line_text.specs.Starts.{CanMove}
use Rattle.line_text.proofs.edit.edit_starts.Goals as goal

pub move_starts-requires : goal.move_starts-requires
move_starts-requires c = subst (CanMove c.args.to (c.args.from + length c.args.written.now)) (sym tail) c.requires.moves
  where
    tail : take (length c.deref_mut-2.result.now - (c.args.first + c.args.len)) (drop (c.args.first + c.args.len) c.deref_mut-2.result.now) ≡ drop c.args.last c.args.starts.now.items
    tail = take_rest c.deref_mut-2.result.now (c.args.first + c.args.len) ∙ search (rules, overwrites)
