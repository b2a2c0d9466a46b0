use Rattle.std.proofs.Common.{◌≡◌, ℕ, suc, ◌-◌, ◌<◌, [], List, slice_get, Some, ap, ◌∙◌, subst, arith}
use Rattle.std.proofs.lemmas.Result.{IfOk-weaker}
use Rattle.patch.specs.Tagged.{Tagged, units_of}
use Rattle.chains.specs.declared.spot.Spot.{Spot}
use Rattle.chains.specs.declared.overlay.Cut.{Cut}
use Rattle.chains.specs.declared.overlay.Overlay.{Overlay}
use Rattle.chains.specs.Overlay.{tags_of}
use Rattle.chains.specs.Walking.{IsEdit}
use Rattle.chains.specs.Moving.{IsRest}
use Rattle.chains.proofs.WeaverLemmas.{room_offset, room_near}
use Rattle.chains.proofs.EditLemmas.{end_in}
use Rattle.chains.proofs.FrontLemmas.{HasCut, has_cut, before, rest_front, rest_new, rest_puts, front_room, rest_awaited, rest_put, rest_lies, rest_is_left, first_rest, tail_edit}
use Rattle.chains.proofs.overlay.Overlay.completed.Goals as goal

pub followed-requires : goal.followed-requires
followed-requires c = let s : List ℕ = c.requires.0 in let whole : Tagged = c.requires.1 in let h = c.requires.2 in let o : Overlay = c.args.self.now in let n : ℕ = c.first_past-next.result in let to : Spot = c.args.to in
    let edit : IsEdit s o c.args.below to to [] = tail_edit s o c.args.below to whole c.args.weaver h in
    let behind : (d : Cut) → slice_get o.cuts.items 0 ≡ Some d → to.offset < d.new.offset = λ d e. c.first_past-next.ensures.behind d (ap (λ (ys : List Cut). slice_get ys n) c.as_slice.ensures.value ∙ (ap (slice_get o.cuts.items) c.if-next-eq0.true ∙ e)) in
    let rest : IsRest s o 0 to to whole c.args.weaver = first_rest s o c.args.below to to [] edit behind whole c.args.weaver h.weaves in
    (s, whole, h.below_is, rest)

pub returns-then-next-eq0-clause-laid : goal.returns-then-next-eq0-clause-laid
returns-then-next-eq0-clause-laid c = IfOk-weaker c.followed.result _ _ (λ made known s whole h. let o : Overlay = c.args.self.now in let n : ℕ = c.first_past-next.result in let to : Spot = c.args.to in
    let edit : IsEdit s o c.args.below to to [] = tail_edit s o c.args.below to whole c.args.weaver h in
    let behind : (d : Cut) → slice_get o.cuts.items 0 ≡ Some d → to.offset < d.new.offset = λ d e. c.first_past-next.ensures.behind d (ap (λ (ys : List Cut). slice_get ys n) c.as_slice.ensures.value ∙ (ap (slice_get o.cuts.items) c.if-next-eq0.true ∙ e)) in
    let rest : IsRest s o 0 to to whole c.args.weaver = first_rest s o c.args.below to to [] edit behind whole c.args.weaver h.weaves in
    known s whole h.below_is rest) c.followed.ensures.laid

pub returns-then-next-eq0-clause-tags : goal.returns-then-next-eq0-clause-tags
returns-then-next-eq0-clause-tags c = IfOk-weaker c.followed.result _ _ (λ made known s whole h. let o : Overlay = c.args.self.now in let n : ℕ = c.first_past-next.result in let to : Spot = c.args.to in
    let edit : IsEdit s o c.args.below to to [] = tail_edit s o c.args.below to whole c.args.weaver h in
    let behind : (d : Cut) → slice_get o.cuts.items 0 ≡ Some d → to.offset < d.new.offset = λ d e. c.first_past-next.ensures.behind d (ap (λ (ys : List Cut). slice_get ys n) c.as_slice.ensures.value ∙ (ap (slice_get o.cuts.items) c.if-next-eq0.true ∙ e)) in
    let rest : IsRest s o 0 to to whole c.args.weaver = first_rest s o c.args.below to to [] edit behind whole c.args.weaver h.weaves in
    known s whole h.below_is rest) c.followed.ensures.tags

pub weave_put-requires : goal.weave_put-requires
weave_put-requires c = let s : List ℕ = c.requires.0 in let whole : Tagged = c.requires.1 in let h = c.requires.2 in let o : Overlay = c.args.self.now in let n : ℕ = c.first_past-next.result in let to : Spot = c.args.to in
    let edit : IsEdit s o c.args.below to to [] = tail_edit s o c.args.below to whole c.args.weaver h in
    let cut : Cut = c.index-cut.result.now in
    let b = before o to c.as_slice.result.now n cut c.as_slice.ensures.value c.if-next-eq0.false c.first_past-next.ensures.within c.first_past-next.ensures.before c.first_past-next.ensures.behind c.index-cut.ensures in
    let H : HasCut s o (n - 1) cut = has_cut s o (n - 1) cut edit.laid b.at in
    record {
      text = s;
      made = units_of (tags_of s o);
      news = rest_front s o c.args.below to to [] edit (n - 1) cut b.at H b.starts b.next;
      stretch = rest_new s o c.args.below to to [] edit (n - 1) cut b.at H b.starts b.next;
      puts = rest_puts s o c.args.below to to [] edit (n - 1) cut b.at H b.starts b.next;
      whole = whole;
      left = _;
      put = rest_put s o c.args.below to to [] edit (n - 1) cut b.at H b.starts b.next;
      short = H.text_short;
      lies = rest_lies s o c.args.below to to [] edit (n - 1) cut b.at H b.starts b.next;
      from_in = h.to_in;
      to_in = end_in s o h.laid;
      weaves = rest_awaited s o c.args.below to to [] edit (n - 1) cut b.at H b.starts b.next whole c.args.weaver h.weaves;
    }

pub ahead-old-requires-clause-room : goal.ahead-old-requires-clause-room
ahead-old-requires-clause-room c = let s : List ℕ = c.requires.0 in let whole : Tagged = c.requires.1 in let h = c.requires.2 in let o : Overlay = c.args.self.now in let n : ℕ = c.first_past-next.result in let to : Spot = c.args.to in
    let edit : IsEdit s o c.args.below to to [] = tail_edit s o c.args.below to whole c.args.weaver h in
    let cut : Cut = c.index-cut.result.now in
    let b = before o to c.as_slice.result.now n cut c.as_slice.ensures.value c.if-next-eq0.false c.first_past-next.ensures.within c.first_past-next.ensures.before c.first_past-next.ensures.behind c.index-cut.ensures in
    let H : HasCut s o (n - 1) cut = has_cut s o (n - 1) cut edit.laid b.at in
    room_offset _ (front_room s o c.args.below to to [] edit (n - 1) cut b.at H b.starts b.next c.later-last.result c.later-last.ensures)

pub ahead-old-requires-clause-near : goal.ahead-old-requires-clause-near
ahead-old-requires-clause-near c = let s : List ℕ = c.requires.0 in let whole : Tagged = c.requires.1 in let h = c.requires.2 in let o : Overlay = c.args.self.now in let n : ℕ = c.first_past-next.result in let to : Spot = c.args.to in
    let edit : IsEdit s o c.args.below to to [] = tail_edit s o c.args.below to whole c.args.weaver h in
    let cut : Cut = c.index-cut.result.now in
    let b = before o to c.as_slice.result.now n cut c.as_slice.ensures.value c.if-next-eq0.false c.first_past-next.ensures.within c.first_past-next.ensures.before c.first_past-next.ensures.behind c.index-cut.ensures in
    let H : HasCut s o (n - 1) cut = has_cut s o (n - 1) cut edit.laid b.at in
    room_near _ (front_room s o c.args.below to to [] edit (n - 1) cut b.at H b.starts b.next c.later-last.result c.later-last.ensures)

pub followed-requires-2 : goal.followed-requires-2
followed-requires-2 c = let s : List ℕ = c.requires.0 in let whole : Tagged = c.requires.1 in let h = c.requires.2 in let o : Overlay = c.args.self.now in let n : ℕ = c.first_past-next.result in let to : Spot = c.args.to in
    let edit : IsEdit s o c.args.below to to [] = tail_edit s o c.args.below to whole c.args.weaver h in
    let cut : Cut = c.index-cut.result.now in
    let b = before o to c.as_slice.result.now n cut c.as_slice.ensures.value c.if-next-eq0.false c.first_past-next.ensures.within c.first_past-next.ensures.before c.first_past-next.ensures.behind c.index-cut.ensures in
    let H : HasCut s o (n - 1) cut = has_cut s o (n - 1) cut edit.laid b.at in
    let left = c.in_ok-weave_put.ensures s (units_of (tags_of s o)) (rest_front s o c.args.below to to [] edit (n - 1) cut b.at H b.starts b.next) (rest_new s o c.args.below to to [] edit (n - 1) cut b.at H b.starts b.next) (rest_puts s o c.args.below to to [] edit (n - 1) cut b.at H b.starts b.next) whole _ (rest_put s o c.args.below to to [] edit (n - 1) cut b.at H b.starts b.next) (rest_lies s o c.args.below to to [] edit (n - 1) cut b.at H b.starts b.next) h.to_in (end_in s o h.laid) (rest_awaited s o c.args.below to to [] edit (n - 1) cut b.at H b.starts b.next whole c.args.weaver h.weaves) in
    let rest : IsRest s o n c.ahead-old.result c.later-last.result whole c.weave_put.new.weaver = subst (λ (i : ℕ). IsRest s o i c.ahead-old.result c.later-last.result whole c.weave_put.new.weaver) (let z : suc (n - 1) ≡ n = omega (arith, c.if-next-eq0.false) in z)
    (rest_is_left s o c.args.below to to [] edit (n - 1) cut b.at H b.starts b.next c.ahead-old.result c.later-last.result whole c.weave_put.new.weaver c.later-last.ensures c.ahead-old.ensures left) in
    (s, whole, h.below_is, rest)

pub returns-clause-laid : goal.returns-clause-laid
returns-clause-laid c = IfOk-weaker c.followed-2.result _ _ (λ made known s whole h. let o : Overlay = c.args.self.now in let n : ℕ = c.first_past-next.result in let to : Spot = c.args.to in
    let edit : IsEdit s o c.args.below to to [] = tail_edit s o c.args.below to whole c.args.weaver h in
    let cut : Cut = c.index-cut.result.now in
    let b = before o to c.as_slice.result.now n cut c.as_slice.ensures.value c.if-next-eq0.false c.first_past-next.ensures.within c.first_past-next.ensures.before c.first_past-next.ensures.behind c.index-cut.ensures in
    let H : HasCut s o (n - 1) cut = has_cut s o (n - 1) cut edit.laid b.at in
    let left = c.in_ok-weave_put.ensures s (units_of (tags_of s o)) (rest_front s o c.args.below to to [] edit (n - 1) cut b.at H b.starts b.next) (rest_new s o c.args.below to to [] edit (n - 1) cut b.at H b.starts b.next) (rest_puts s o c.args.below to to [] edit (n - 1) cut b.at H b.starts b.next) whole _ (rest_put s o c.args.below to to [] edit (n - 1) cut b.at H b.starts b.next) (rest_lies s o c.args.below to to [] edit (n - 1) cut b.at H b.starts b.next) h.to_in (end_in s o h.laid) (rest_awaited s o c.args.below to to [] edit (n - 1) cut b.at H b.starts b.next whole c.args.weaver h.weaves) in
    let rest : IsRest s o n c.ahead-old.result c.later-last.result whole c.weave_put.new.weaver = subst (λ (i : ℕ). IsRest s o i c.ahead-old.result c.later-last.result whole c.weave_put.new.weaver) (let z : suc (n - 1) ≡ n = omega (arith, c.if-next-eq0.false) in z)
    (rest_is_left s o c.args.below to to [] edit (n - 1) cut b.at H b.starts b.next c.ahead-old.result c.later-last.result whole c.weave_put.new.weaver c.later-last.ensures c.ahead-old.ensures left) in
    known s whole h.below_is rest) c.followed-2.ensures.laid

pub returns-clause-tags : goal.returns-clause-tags
returns-clause-tags c = IfOk-weaker c.followed-2.result _ _ (λ made known s whole h. let o : Overlay = c.args.self.now in let n : ℕ = c.first_past-next.result in let to : Spot = c.args.to in
    let edit : IsEdit s o c.args.below to to [] = tail_edit s o c.args.below to whole c.args.weaver h in
    let cut : Cut = c.index-cut.result.now in
    let b = before o to c.as_slice.result.now n cut c.as_slice.ensures.value c.if-next-eq0.false c.first_past-next.ensures.within c.first_past-next.ensures.before c.first_past-next.ensures.behind c.index-cut.ensures in
    let H : HasCut s o (n - 1) cut = has_cut s o (n - 1) cut edit.laid b.at in
    let left = c.in_ok-weave_put.ensures s (units_of (tags_of s o)) (rest_front s o c.args.below to to [] edit (n - 1) cut b.at H b.starts b.next) (rest_new s o c.args.below to to [] edit (n - 1) cut b.at H b.starts b.next) (rest_puts s o c.args.below to to [] edit (n - 1) cut b.at H b.starts b.next) whole _ (rest_put s o c.args.below to to [] edit (n - 1) cut b.at H b.starts b.next) (rest_lies s o c.args.below to to [] edit (n - 1) cut b.at H b.starts b.next) h.to_in (end_in s o h.laid) (rest_awaited s o c.args.below to to [] edit (n - 1) cut b.at H b.starts b.next whole c.args.weaver h.weaves) in
    let rest : IsRest s o n c.ahead-old.result c.later-last.result whole c.weave_put.new.weaver = subst (λ (i : ℕ). IsRest s o i c.ahead-old.result c.later-last.result whole c.weave_put.new.weaver) (let z : suc (n - 1) ≡ n = omega (arith, c.if-next-eq0.false) in z)
    (rest_is_left s o c.args.below to to [] edit (n - 1) cut b.at H b.starts b.next c.ahead-old.result c.later-last.result whole c.weave_put.new.weaver c.later-last.ensures c.ahead-old.ensures left) in
    known s whole h.below_is rest) c.followed-2.ensures.tags
