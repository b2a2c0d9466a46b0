use Rattle.std.proofs.Common.{◌≡◌, ℕ, ◌<◌, List, ◌++◌, IsAscii, string_bytes, slice_range, sym, ap, subst, ◌∙◌, arith}
use Rattle.std.proofs.lemmas.Str.{IsAscii-append}
use Rattle.std.proofs.lemmas.Str.Ascii.{IsAscii-nil}
use Rattle.std.proofs.lemmas.List.Sums.{count_by-le-length}
use Rattle.points.specs.declared.point.Point.{Point}
use Rattle.points.specs.Text.{is_lf}
use Rattle.points.specs.Place.{extent, clipped_offset}
use Rattle.search.proofs.CopyLemmas.{text_of_plain, whole_range, next_piece, last_piece}
use Rattle.search.proofs.copy.copied_plain.Goals as goal

pub loop-piece-init : goal.loop-piece-init
loop-piece-init c =
    let text = c.args.reader.now.text in
    let past : Point = record { row = 4294967295; column = 0 } in
    let below : (extent text).row < 4294967295 = omega (arith, count_by-le-length is_lf text, c.len.ensures.value, c.len.ensures.short) in
    let all = whole_range text past below in
    let range = slice_range text (clipped_offset text c.new.result.start) (clipped_offset text c.new.result.end) in
    let pieces = ◌∙◌ {b = range} c.pieces-piece-items.ensures
    (ap (λ (p : Point). slice_range text (clipped_offset text p) (clipped_offset text c.new.result.end)) c.new.ensures.start
    ∙ (ap (λ (p : Point). slice_range text (clipped_offset text (record { row = 0; column = 0 })) (clipped_offset text p)) c.new.ensures.end ∙ all)) in
    let gives = c.into_iter-piece-iterator.ensures.into_iter_gives in
    let whole : c.into_iter-piece-iterator.result ≡ text = cc in
    record {
      plain = subst IsAscii (sym c.in_ok-bytes.ensures.items) IsAscii-nil;
      rest = ap (λ (xs : List ℕ). xs ++ c.into_iter-piece-iterator.result) c.in_ok-bytes.ensures.items ∙ whole;
    }

pub loop-piece-preserved : goal.loop-piece-preserved
loop-piece-preserved c = record {
  plain = subst IsAscii (sym c.in_ok-put_plain.ensures)
      (IsAscii-append c.loop-piece.bytes.items c.in-Some.piece.now c.loop-piece.invariant.plain (c.is_plain.ensures c.if-not-is_plain.false));
  rest = ap (λ (xs : List ℕ). xs ++ c.next.new.self) c.in_ok-put_plain.ensures
      ∙ next_piece c.loop-piece.bytes.items c.loop-piece.piece-iterator c.in-Some.piece.now c.next.new.self c.args.reader.now.text c.loop-piece.invariant.rest c.in-Some.ensures.steps.1;
}

pub returns-in-Ok : goal.returns-in-Ok
returns-in-Ok c =
    let read = c.in-Ok.ensures.ok in
    let bytes : string_bytes c.in-Ok.text ≡ c.loop-piece.bytes.items = cc in
    let all = last_piece c.loop-piece.bytes.items c.loop-piece.piece-iterator c.args.reader.now.text c.loop-piece.invariant.rest c.in-None.ensures.steps.0 in
    bytes ∙ (all ∙ sym (text_of_plain c.args.reader.now.text (subst IsAscii all c.loop-piece.invariant.plain)))
