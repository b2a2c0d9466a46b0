use Rattle.std.proofs.Common.{◌≡◌, ℕ, ◌-◌, ◌<◌, ◌++◌, [], List, slice_get, slice_range, Some, refl, ap, ◌∙◌}
use Rattle.patch.specs.Tagged.{untagged, edited}
use Rattle.chains.specs.declared.overlay.Cut.{Cut}
use Rattle.chains.specs.declared.overlay.Overlay.{Overlay}
use Rattle.chains.specs.Overlay.{tags_of}
use Rattle.chains.specs.Walking.{Opens}
use Rattle.chains.proofs.WeaverLemmas.{room_offset, room_near}
use Rattle.chains.proofs.FrontLemmas.{HasCut, before, has_cut, behind_old, kept_behind, front_stretch, front_room, front_opens, front_weaves, first_behind, first_stretch, first_weaves}
use Rattle.chains.proofs.overlay.Overlay.front.Goals as goal

pub keep-requires : goal.keep-requires
keep-requires c = let s : List ℕ = c.requires.0 in let h = c.requires.4 in
    let behind : (d : Cut) → slice_get c.args.self.now.cuts.items 0 ≡ Some d → c.args.from.offset < d.new.offset = λ d e. c.first_past-next.ensures.behind d (ap (λ (ys : List Cut). slice_get ys c.first_past-next.result) c.as_slice.ensures.value ∙ (ap (slice_get c.args.self.now.cuts.items) c.if-next-eq0.true ∙ e)) in record {
      text = s;
      front = [];
      kept = first_behind s c.args.self.now c.requires.1 c.args.from c.requires.2 c.requires.3 h behind;
      whole = edited (tags_of s c.args.self.now) c.args.from.offset c.requires.2.offset c.requires.3;
      left = untagged c.requires.3 ++ (slice_range (tags_of s c.args.self.now) c.requires.2.offset c.args.self.now.end.offset ++ []);
      stretch = first_stretch s c.args.self.now c.requires.1 c.args.from c.requires.2 c.requires.3 h behind _ refl;
      weaves = first_weaves s c.args.self.now c.requires.1 c.args.from c.requires.2 c.requires.3 h behind c.in_ok-weaver.weaver (c.in_ok-weaver.ensures.woven s) c.in_ok-weaver.ensures.start;
    }

pub returns-then-next-eq0 : goal.returns-then-next-eq0
returns-then-next-eq0 c = λ s below to put h.
    let behind : (d : Cut) → slice_get c.args.self.now.cuts.items 0 ≡ Some d → c.args.from.offset < d.new.offset = λ d e. c.first_past-next.ensures.behind d (ap (λ (ys : List Cut). slice_get ys c.first_past-next.result) c.as_slice.ensures.value ∙ (ap (slice_get c.args.self.now.cuts.items) c.if-next-eq0.true ∙ e)) in
    c.in_ok-keep.ensures s [] (first_behind s c.args.self.now below c.args.from to put h behind) (edited (tags_of s c.args.self.now) c.args.from.offset to.offset put) (untagged put ++ (slice_range (tags_of s c.args.self.now) to.offset c.args.self.now.end.offset ++ []))
    (first_stretch s c.args.self.now below c.args.from to put h behind _ refl)
    (first_weaves s c.args.self.now below c.args.from to put h behind c.in_ok-weaver.weaver (c.in_ok-weaver.ensures.woven s) c.in_ok-weaver.ensures.start)

pub opened-requires : goal.opened-requires
opened-requires c = let s : List ℕ = c.requires.0 in let h = c.requires.4 in let o : Overlay = c.args.self.now in let n : ℕ = c.first_past-next.result in
    let b = before o c.args.from c.as_slice.result.now n c.index-cut.result.now c.as_slice.ensures.value c.if-next-eq0.false c.first_past-next.ensures.within c.first_past-next.ensures.before c.first_past-next.ensures.behind c.index-cut.ensures in
    (s, front_opens s o c.requires.1 c.args.from c.requires.2 c.requires.3 h (n - 1) c.index-cut.result.now b.at (has_cut s o (n - 1) c.index-cut.result.now h.laid b.at) b.starts b.next c.earlier.result c.earlier.ensures)

pub ahead-requires-clause-room : goal.ahead-requires-clause-room
ahead-requires-clause-room c = let s : List ℕ = c.requires.0 in let h = c.requires.4 in let o : Overlay = c.args.self.now in let n : ℕ = c.first_past-next.result in
    let b = before o c.args.from c.as_slice.result.now n c.index-cut.result.now c.as_slice.ensures.value c.if-next-eq0.false c.first_past-next.ensures.within c.first_past-next.ensures.before c.first_past-next.ensures.behind c.index-cut.ensures in
    room_offset _ (front_room s o c.requires.1 c.args.from c.requires.2 c.requires.3 h (n - 1) c.index-cut.result.now b.at (has_cut s o (n - 1) c.index-cut.result.now h.laid b.at) b.starts b.next c.later-last.result c.later-last.ensures)

pub ahead-requires-clause-near : goal.ahead-requires-clause-near
ahead-requires-clause-near c = let s : List ℕ = c.requires.0 in let h = c.requires.4 in let o : Overlay = c.args.self.now in let n : ℕ = c.first_past-next.result in
    let b = before o c.args.from c.as_slice.result.now n c.index-cut.result.now c.as_slice.ensures.value c.if-next-eq0.false c.first_past-next.ensures.within c.first_past-next.ensures.before c.first_past-next.ensures.behind c.index-cut.ensures in
    room_near _ (front_room s o c.requires.1 c.args.from c.requires.2 c.requires.3 h (n - 1) c.index-cut.result.now b.at (has_cut s o (n - 1) c.index-cut.result.now h.laid b.at) b.starts b.next c.later-last.result c.later-last.ensures)

pub keep-requires-2 : goal.keep-requires-2
keep-requires-2 c = let s : List ℕ = c.requires.0 in let h = c.requires.4 in let o : Overlay = c.args.self.now in let n : ℕ = c.first_past-next.result in let cut : Cut = c.index-cut.result.now in
    let b = before o c.args.from c.as_slice.result.now n cut c.as_slice.ensures.value c.if-next-eq0.false c.first_past-next.ensures.within c.first_past-next.ensures.before c.first_past-next.ensures.behind c.index-cut.ensures in
    let H : HasCut s o (n - 1) cut = has_cut s o (n - 1) cut h.laid b.at in
    let opens : Opens s o (n - 1) cut c.earlier.result = front_opens s o c.requires.1 c.args.from c.requires.2 c.requires.3 h (n - 1) cut b.at H b.starts b.next c.earlier.result c.earlier.ensures in record {
      text = s;
      front = behind_old s o c.requires.1 c.args.from c.requires.2 c.requires.3 h (n - 1) cut b.at H b.starts b.next;
      kept = kept_behind s o c.requires.1 c.args.from c.requires.2 c.requires.3 h (n - 1) cut b.at H b.starts b.next;
      whole = edited (tags_of s o) c.args.from.offset c.requires.2.offset c.requires.3;
      left = untagged c.requires.3 ++ (slice_range (tags_of s o) c.requires.2.offset o.end.offset ++ []);
      stretch = front_stretch s o c.requires.1 c.args.from c.requires.2 c.requires.3 h (n - 1) cut b.at H b.starts b.next c.later-last.result _ c.later-last.ensures c.ahead.ensures;
      weaves = front_weaves s o c.requires.1 c.args.from c.requires.2 c.requires.3 h (n - 1) cut b.at H b.starts b.next c.earlier.result c.in_ok-weaver-2.weaver c.earlier.ensures (c.in_ok-weaver-2.ensures.woven s opens) c.in_ok-weaver-2.ensures.old;
    }

pub returns : goal.returns
returns c = λ s below to put h. let o : Overlay = c.args.self.now in let n : ℕ = c.first_past-next.result in let cut : Cut = c.index-cut.result.now in
    let b = before o c.args.from c.as_slice.result.now n cut c.as_slice.ensures.value c.if-next-eq0.false c.first_past-next.ensures.within c.first_past-next.ensures.before c.first_past-next.ensures.behind c.index-cut.ensures in
    let H : HasCut s o (n - 1) cut = has_cut s o (n - 1) cut h.laid b.at in
    let opens : Opens s o (n - 1) cut c.earlier.result = front_opens s o below c.args.from to put h (n - 1) cut b.at H b.starts b.next c.earlier.result c.earlier.ensures in
    c.in_ok-keep-2.ensures s (behind_old s o below c.args.from to put h (n - 1) cut b.at H b.starts b.next) (kept_behind s o below c.args.from to put h (n - 1) cut b.at H b.starts b.next)
    (edited (tags_of s o) c.args.from.offset to.offset put) (untagged put ++ (slice_range (tags_of s o) to.offset o.end.offset ++ []))
    (front_stretch s o below c.args.from to put h (n - 1) cut b.at H b.starts b.next c.later-last.result _ c.later-last.ensures c.ahead.ensures)
    (front_weaves s o below c.args.from to put h (n - 1) cut b.at H b.starts b.next c.earlier.result c.in_ok-weaver-2.weaver c.earlier.ensures (c.in_ok-weaver-2.ensures.woven s opens) c.in_ok-weaver-2.ensures.old)
