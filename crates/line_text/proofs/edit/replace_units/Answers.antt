use Rattle.std.proofs.Common.{◌+◌, ◌-◌, ◌≡◌, ◌∙◌, ℕ, List, length, take, drop, sym, ap, arith}
use Rattle.points.specs.Text.{utf16_of, replaced}
use Rattle.points.proofs.ExtentLemmas.{feeds}
use Rattle.line_text.specs.declared.encode.Size.{Size}
use Rattle.line_text.specs.Starts.{starts_of}
use Rattle.line_text.proofs.ReplaceLemmas.{can_move, written_is, starts_edited}
use Rattle.line_text.proofs.edit.replace_units.Goals as goal

pub edit_starts-requires-clause-moves : goal.edit_starts-requires-clause-moves
edit_starts-requires-clause-moves c = can_move c.args.units.now.items c.make_room-2.new.items.items c.args.to _ c.rows_between-first.result.1
    (c.make_room-2.ensures.items ∙ c.requires.kept) (omega arith) last (omega (arith, ap length written, sized))
  where
    last : c.rows_between-first.result.1 ≡ feeds (take c.args.to c.args.units.now.items)
    last = c.rows_between-first.ensures.last ∙ ap (λ (xs : List ℕ). feeds (take c.args.to xs)) c.as_slice.ensures.value

    sized : c.args.size.units ≡ length (utf16_of c.args.text.now)
    sized = ap (λ (s : Size). s.units) c.requires.sized

    written : take (c.args.from + c.args.size.units - c.args.from) (drop c.args.from c.as_slice-3.result.now) ≡ utf16_of c.args.text.now
    written = written_is c.args.units.now.items c.args.from c.args.to c.args.size.units (utf16_of c.args.text.now) c.as_slice-3.result.now (omega arith) sized
        (c.as_slice-3.ensures.value ∙ (c.edit_units.ensures ∙ ap (λ (xs : List ℕ). replaced xs c.args.from c.args.to (utf16_of c.args.text.now)) c.make_room.ensures.items))

pub returns-clause-ok_starts : goal.returns-clause-ok_starts
returns-clause-ok_starts c = c.edit_starts.ensures ∙ (starts_edited c.args.units.now.items c.make_room-2.new.items.items (utf16_of c.args.text.now) _ c.args.from c.args.to c.rows_between-first.result.0 c.rows_between-first.result.1
    (c.make_room-2.ensures.items ∙ c.requires.kept) c.requires.order (omega arith) first last
    (written_is c.args.units.now.items c.args.from c.args.to c.args.size.units (utf16_of c.args.text.now) c.as_slice-3.result.now (omega arith) (ap (λ (s : Size). s.units) c.requires.sized) (c.as_slice-3.ensures.value ∙ edited))
    ∙ ap starts_of (sym edited))
  where
    first : c.rows_between-first.result.0 ≡ feeds (take c.args.from c.args.units.now.items)
    first = c.rows_between-first.ensures.first ∙ ap (λ (xs : List ℕ). feeds (take c.args.from xs)) c.as_slice.ensures.value

    last : c.rows_between-first.result.1 ≡ feeds (take c.args.to c.args.units.now.items)
    last = c.rows_between-first.ensures.last ∙ ap (λ (xs : List ℕ). feeds (take c.args.to xs)) c.as_slice.ensures.value

    edited : c.edit_units.new.units.items ≡ replaced c.args.units.now.items c.args.from c.args.to (utf16_of c.args.text.now)
    edited = c.edit_units.ensures ∙ ap (λ (xs : List ℕ). replaced xs c.args.from c.args.to (utf16_of c.args.text.now)) c.make_room.ensures.items
