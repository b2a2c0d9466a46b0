use Rattle.std.proofs.Common.{◌≡◌, ℕ, ◌+◌, ◌-◌, ◌*◌, ◌++◌, List, length, map, slice_get, slice_range, refl, sym, ap, ◌∙◌, arith}
use Rattle.patch.specs.Tagged.{Tagged}
use Rattle.chains.specs.declared.overlay.Cut.{Cut}
use Rattle.chains.specs.declared.overlay.Overlay.{Overlay}
use Rattle.chains.specs.declared.weaver.Weaver.{Weaver}
use Rattle.chains.specs.declared.moving.Shift.{Shift}
use Rattle.chains.specs.Weaving.{IsClosed}
use Rattle.chains.specs.Moving.{moved_cut}
use Rattle.chains.proofs.WeaverLemmas.{done_short, room_offset, room_near}
use Rattle.chains.proofs.RestLemmas.{rest_taken, rest_room, rest_fits, rest_moves, rest_units, rest_laid, rest_tags, all_behind_at}
use Rattle.chains.proofs.overlay.Overlay.followed.Goals as goal

pub close-requires : goal.close-requires
close-requires c = let s : List ℕ = c.requires.0 in let h = c.requires.3 in
    (s, h.weaves.done, rest_taken s c.args.self.now c.args.next c.args.old c.args.new c.requires.1 c.args.weaver h, h.weaves.short_text, omega (arith, done_short s c.requires.1 _ c.args.weaver h.weaves))

pub move_cuts-requires : goal.move_cuts-requires
move_cuts-requires c = let s : List ℕ = c.requires.0 in let whole : Tagged = c.requires.1 in let h = c.requires.3 in let o : Overlay = c.args.self.now in let w : Weaver = c.args.weaver in let w1 : Weaver = c.close.new.self in
    let closed : IsClosed s h.weaves.done w1 = c.in_ok-close.ensures.ok s h.weaves.done (rest_taken s o c.args.next c.args.old c.args.new whole w h) in
    let from : c.text_before-text_from.result ≡ length h.puts = c.text_before-text_from.ensures h.olds h.news h.puts h.pieces h.cuts_are h.puts_are in
    let by : Shift = record { from = c.args.new; to = c.close.new.self.at_new; text_from = c.text_before-text_from.result; text_to = c.len.result } in
    λ i d e. rest_moves s o c.args.next c.args.old c.args.new whole w h w1 closed c.in_ok-close.ensures.old by refl refl from c.len.ensures.value i d
    (ap (λ (cs : List Cut). slice_get cs i) (sym (all_behind_at c.as_slice.result.now o.cuts.items c.args.next c.as_slice.ensures.value)) ∙ e)

pub append-requires : goal.append-requires
append-requires c = let s : List ℕ = c.requires.0 in let whole : Tagged = c.requires.1 in let h = c.requires.3 in let o : Overlay = c.args.self.now in let w : Weaver = c.args.weaver in let w1 : Weaver = c.close.new.self in
    let closed : IsClosed s h.weaves.done w1 = c.in_ok-close.ensures.ok s h.weaves.done (rest_taken s o c.args.next c.args.old c.args.new whole w h) in
    let from : c.text_before-text_from.result ≡ length h.puts = c.text_before-text_from.ensures h.olds h.news h.puts h.pieces h.cuts_are h.puts_are in
    omega (arith, rest_fits s o c.args.next c.args.old c.args.new whole w h w1 closed c.in_ok-close.ensures.old c.text_before-text_from.result from, ap length (c.part.ensures ∙ ap (slice_range o.text c.text_before-text_from.result) c.len-2.ensures.value))

pub ahead-end-requires-clause-room : goal.ahead-end-requires-clause-room
ahead-end-requires-clause-room c = let s : List ℕ = c.requires.0 in let whole : Tagged = c.requires.1 in let h = c.requires.3 in let o : Overlay = c.args.self.now in let w : Weaver = c.args.weaver in let w1 : Weaver = c.close.new.self in
    let closed : IsClosed s h.weaves.done w1 = c.in_ok-close.ensures.ok s h.weaves.done (rest_taken s o c.args.next c.args.old c.args.new whole w h) in
    let from : c.text_before-text_from.result ≡ length h.puts = c.text_before-text_from.ensures h.olds h.news h.puts h.pieces h.cuts_are h.puts_are in
    room_offset _ (rest_room s o c.args.next c.args.old c.args.new whole w h w1 closed c.in_ok-close.ensures.old)

pub ahead-end-requires-clause-near : goal.ahead-end-requires-clause-near
ahead-end-requires-clause-near c = let s : List ℕ = c.requires.0 in let whole : Tagged = c.requires.1 in let h = c.requires.3 in let o : Overlay = c.args.self.now in let w : Weaver = c.args.weaver in let w1 : Weaver = c.close.new.self in
    let closed : IsClosed s h.weaves.done w1 = c.in_ok-close.ensures.ok s h.weaves.done (rest_taken s o c.args.next c.args.old c.args.new whole w h) in
    let from : c.text_before-text_from.result ≡ length h.puts = c.text_before-text_from.ensures h.olds h.news h.puts h.pieces h.cuts_are h.puts_are in
    room_near _ (rest_room s o c.args.next c.args.old c.args.new whole w h w1 closed c.in_ok-close.ensures.old)

pub overflow_sub-result : goal.overflow_sub-result
overflow_sub-result c = let s : List ℕ = c.requires.0 in let whole : Tagged = c.requires.1 in let h = c.requires.3 in let o : Overlay = c.args.self.now in let w : Weaver = c.args.weaver in let w1 : Weaver = c.close.new.self in
    let closed : IsClosed s h.weaves.done w1 = c.in_ok-close.ensures.ok s h.weaves.done (rest_taken s o c.args.next c.args.old c.args.new whole w h) in
    let from : c.text_before-text_from.result ≡ length h.puts = c.text_before-text_from.ensures h.olds h.news h.puts h.pieces h.cuts_are h.puts_are in
    let by : Shift = record { from = c.args.new; to = c.close.new.self.at_new; text_from = c.text_before-text_from.result; text_to = c.len.result } in
    omega (
      arith,
      rest_units s o c.args.next c.args.old c.args.new whole w h w1 closed c.in_ok-close.ensures.old by refl refl from c.len.ensures.value c.ahead-end.result c.args.below c.ahead-end.ensures c.requires.2,
      c.from.ensures,
      c.from-2.ensures,
      c.len-3.ensures.value,
      ap length (c.in_ok-append.ensures.ok ∙ ap (λ (us : List ℕ). w1.text ++ us) (c.part.ensures ∙ ap (slice_range o.text c.text_before-text_from.result) c.len-2.ensures.value)),
    )

pub returns-clause-laid : goal.returns-clause-laid
returns-clause-laid c = λ s whole below_is h. let o : Overlay = c.args.self.now in let w : Weaver = c.args.weaver in let w1 : Weaver = c.close.new.self in
    let closed : IsClosed s h.weaves.done w1 = c.in_ok-close.ensures.ok s h.weaves.done (rest_taken s o c.args.next c.args.old c.args.new whole w h) in
    let from : c.text_before-text_from.result ≡ length h.puts = c.text_before-text_from.ensures h.olds h.news h.puts h.pieces h.cuts_are h.puts_are in
    let by : Shift = record { from = c.args.new; to = c.close.new.self.at_new; text_from = c.text_before-text_from.result; text_to = c.len.result } in
    let text : c.append.new.self ≡ w1.text ++ slice_range o.text by.text_from (length o.text) = c.in_ok-append.ensures.ok ∙ ap (λ (us : List ℕ). w1.text ++ us) (c.part.ensures ∙ ap (slice_range o.text c.text_before-text_from.result) c.len-2.ensures.value) in
    let made : Overlay = record { cuts = c.move_cuts.new.into; text = c.append.new.self; end = c.ahead-end.result; units = c.from.result + 2 * c.len-3.result - c.from-2.result } in
    rest_laid s o c.args.next c.args.old c.args.new whole w h w1 closed c.in_ok-close.ensures.old by refl refl from c.len.ensures.value made c.args.below below_is
    (c.in_ok-move_cuts.ensures ∙ ap (λ (cs : List Cut). w1.cuts.items ++ map (moved_cut by) cs) (all_behind_at c.as_slice.result.now o.cuts.items c.args.next c.as_slice.ensures.value))
    text c.ahead-end.ensures (omega (arith, c.from.ensures, c.from-2.ensures, c.len-3.ensures.value))

pub returns-clause-tags : goal.returns-clause-tags
returns-clause-tags c = λ s whole below_is h. let o : Overlay = c.args.self.now in let w : Weaver = c.args.weaver in let w1 : Weaver = c.close.new.self in
    let closed : IsClosed s h.weaves.done w1 = c.in_ok-close.ensures.ok s h.weaves.done (rest_taken s o c.args.next c.args.old c.args.new whole w h) in
    let from : c.text_before-text_from.result ≡ length h.puts = c.text_before-text_from.ensures h.olds h.news h.puts h.pieces h.cuts_are h.puts_are in
    let by : Shift = record { from = c.args.new; to = c.close.new.self.at_new; text_from = c.text_before-text_from.result; text_to = c.len.result } in
    let text : c.append.new.self ≡ w1.text ++ slice_range o.text by.text_from (length o.text) = c.in_ok-append.ensures.ok ∙ ap (λ (us : List ℕ). w1.text ++ us) (c.part.ensures ∙ ap (slice_range o.text c.text_before-text_from.result) c.len-2.ensures.value) in
    let made : Overlay = record { cuts = c.move_cuts.new.into; text = c.append.new.self; end = c.ahead-end.result; units = c.from.result + 2 * c.len-3.result - c.from-2.result } in
    rest_tags s o c.args.next c.args.old c.args.new whole w h w1 closed c.in_ok-close.ensures.old by refl refl from c.len.ensures.value made c.args.below below_is
    (c.in_ok-move_cuts.ensures ∙ ap (λ (cs : List Cut). w1.cuts.items ++ map (moved_cut by) cs) (all_behind_at c.as_slice.result.now o.cuts.items c.args.next c.as_slice.ensures.value))
    text c.ahead-end.ensures (omega (arith, c.from.ensures, c.from-2.ensures, c.len-3.ensures.value))
