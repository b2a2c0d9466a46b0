use Rattle.std.proofs.Common.{◌≡◌, ◌∙◌, ℕ, List, take, ap, sym, arith, refl}
use Rattle.points.specs.Text.{replaced}
use Rattle.points.proofs.ExtentLemmas.{feeds}
use Rattle.line_text.specs.Starts.{starts_of}
use Rattle.line_text.proofs.ReplaceLemmas.{can_move, starts_edited}
use Rattle.line_text.proofs.put.put_units.Goals as goal

pub edit_starts-requires-clause-moves : goal.edit_starts-requires-clause-moves
edit_starts-requires-clause-moves c = can_move c.args.units.now.items c.make_room-2.new.items.items c.args.to _ c.rows_between-first.result.1
    (c.make_room-2.ensures.items ∙ c.requires.kept) (omega arith) last (omega arith)
  where
    last : c.rows_between-first.result.1 ≡ feeds (take c.args.to c.args.units.now.items)
    last = c.rows_between-first.ensures.last ∙ ap (λ (xs : List ℕ). feeds (take c.args.to xs)) c.as_slice.ensures.value

pub returns-clause-ok_starts : goal.returns-clause-ok_starts
returns-clause-ok_starts c = c.edit_starts.ensures ∙ (starts_edited c.args.units.now.items c.make_room-2.new.items.items c.args.new.now _ c.args.from c.args.to c.rows_between-first.result.0 c.rows_between-first.result.1
    (c.make_room-2.ensures.items ∙ c.requires.kept) c.requires.order (omega arith) first last refl
    ∙ ap starts_of (sym edited))
  where
    first : c.rows_between-first.result.0 ≡ feeds (take c.args.from c.args.units.now.items)
    first = c.rows_between-first.ensures.first ∙ ap (λ (xs : List ℕ). feeds (take c.args.from xs)) c.as_slice.ensures.value

    last : c.rows_between-first.result.1 ≡ feeds (take c.args.to c.args.units.now.items)
    last = c.rows_between-first.ensures.last ∙ ap (λ (xs : List ℕ). feeds (take c.args.to xs)) c.as_slice.ensures.value

    edited : c.copy_into.new.units.items ≡ replaced c.args.units.now.items c.args.from c.args.to c.args.new.now
    edited = c.copy_into.ensures ∙ ap (λ (xs : List ℕ). replaced xs c.args.from c.args.to c.args.new.now) c.make_room.ensures.items
