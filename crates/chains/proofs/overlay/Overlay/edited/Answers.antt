use Rattle.std.proofs.Common.{◌≡◌, ◌∙◌, ℕ, List, [], ◌++◌, slice_range, refl, sym, subst}
use Rattle.std.proofs.lemmas.Result.{IfOk-weaker}
use Rattle.patch.specs.Tagged.{Tagged, untagged, edited}
use Rattle.chains.specs.declared.overlay.Overlay.{Overlay}
use Rattle.chains.specs.Overlay.{end_of, tags_of}
use Rattle.chains.specs.Weaving.{Weaves}
use Rattle.chains.specs.Moving.{IsTail}
use Rattle.chains.proofs.EditLemmas.{slice_whole, spot_of, put_end}
use Rattle.chains.proofs.FrontLemmas.{rest_is}
use Rattle.chains.proofs.overlay.Overlay.edited.Goals as goal

pub front-requires : goal.front-requires
front-requires c = (c.requires.0, c.args.below, c.args.to, c.args.put.now, c.requires.1)

pub put-requires : goal.put-requires
put-requires c = let s : List ℕ = c.requires.0 in let h = c.requires.1 in let o : Overlay = c.args.self.now in let u : List ℕ = c.args.put.now in
    let whole : Tagged = edited (tags_of s o) c.args.from.offset c.args.to.offset u in let rest : Tagged = slice_range (tags_of s o) c.args.to.offset o.end.offset ++ [] in
    let part : c.part.result ≡ u = c.part.ensures ∙ slice_whole u c.len-4.result c.len-4.ensures.value in
    let end : spot_of c.len-3.result c.extent-3.result ≡ end_of c.part.result = put_end c.len-3.result c.extent-3.result u c.part.result c.len-3.ensures.value c.extent-3.ensures part in
    let first : Weaves s whole (untagged c.part.result ++ rest) c.in_ok-weaver.weaver = subst (λ (xs : List ℕ). Weaves s whole (untagged xs ++ rest) c.in_ok-weaver.weaver) (sym part) (c.in_ok-weaver.ensures s c.args.below c.args.to u h) in
    record { text = s; whole = whole; left = rest; front = []; from_is = refl; to_is = end; weaves = first }

pub completed-requires : goal.completed-requires
completed-requires c = let s : List ℕ = c.requires.0 in let h = c.requires.1 in let o : Overlay = c.args.self.now in let u : List ℕ = c.args.put.now in
    let whole : Tagged = edited (tags_of s o) c.args.from.offset c.args.to.offset u in let rest : Tagged = slice_range (tags_of s o) c.args.to.offset o.end.offset ++ [] in
    let part : c.part.result ≡ u = c.part.ensures ∙ slice_whole u c.len-4.result c.len-4.ensures.value in
    let end : spot_of c.len-3.result c.extent-3.result ≡ end_of c.part.result = put_end c.len-3.result c.extent-3.result u c.part.result c.len-3.ensures.value c.extent-3.ensures part in
    let first : Weaves s whole (untagged c.part.result ++ rest) c.in_ok-weaver.weaver = subst (λ (xs : List ℕ). Weaves s whole (untagged xs ++ rest) c.in_ok-weaver.weaver) (sym part) (c.in_ok-weaver.ensures s c.args.below c.args.to u h) in
    let tail : IsTail s o c.args.below c.args.to whole c.put.new.self = record { laid = h.laid; below_is = h.below_is; to_in = h.to_in; weaves = subst (λ (g : Tagged). Weaves s whole g c.put.new.self) (rest_is s o c.args.to.offset h.laid) (c.in_ok-put.ensures s [] whole rest refl end first) } in
    (s, whole, tail)

pub returns-clause-laid : goal.returns-clause-laid
returns-clause-laid c = IfOk-weaker c.completed.result _ _ (λ made known s h. let o : Overlay = c.args.self.now in let u : List ℕ = c.args.put.now in
    let whole : Tagged = edited (tags_of s o) c.args.from.offset c.args.to.offset u in let rest : Tagged = slice_range (tags_of s o) c.args.to.offset o.end.offset ++ [] in
    let part : c.part.result ≡ u = c.part.ensures ∙ slice_whole u c.len-4.result c.len-4.ensures.value in
    let end : spot_of c.len-3.result c.extent-3.result ≡ end_of c.part.result = put_end c.len-3.result c.extent-3.result u c.part.result c.len-3.ensures.value c.extent-3.ensures part in
    let first : Weaves s whole (untagged c.part.result ++ rest) c.in_ok-weaver.weaver = subst (λ (xs : List ℕ). Weaves s whole (untagged xs ++ rest) c.in_ok-weaver.weaver) (sym part) (c.in_ok-weaver.ensures s c.args.below c.args.to u h) in
    let tail : IsTail s o c.args.below c.args.to whole c.put.new.self = record { laid = h.laid; below_is = h.below_is; to_in = h.to_in; weaves = subst (λ (g : Tagged). Weaves s whole g c.put.new.self) (rest_is s o c.args.to.offset h.laid) (c.in_ok-put.ensures s [] whole rest refl end first) } in
    known s whole tail) c.completed.ensures.laid

pub returns-clause-tags : goal.returns-clause-tags
returns-clause-tags c = IfOk-weaker c.completed.result _ _ (λ made known s h. let o : Overlay = c.args.self.now in let u : List ℕ = c.args.put.now in
    let whole : Tagged = edited (tags_of s o) c.args.from.offset c.args.to.offset u in let rest : Tagged = slice_range (tags_of s o) c.args.to.offset o.end.offset ++ [] in
    let part : c.part.result ≡ u = c.part.ensures ∙ slice_whole u c.len-4.result c.len-4.ensures.value in
    let end : spot_of c.len-3.result c.extent-3.result ≡ end_of c.part.result = put_end c.len-3.result c.extent-3.result u c.part.result c.len-3.ensures.value c.extent-3.ensures part in
    let first : Weaves s whole (untagged c.part.result ++ rest) c.in_ok-weaver.weaver = subst (λ (xs : List ℕ). Weaves s whole (untagged xs ++ rest) c.in_ok-weaver.weaver) (sym part) (c.in_ok-weaver.ensures s c.args.below c.args.to u h) in
    let tail : IsTail s o c.args.below c.args.to whole c.put.new.self = record { laid = h.laid; below_is = h.below_is; to_in = h.to_in; weaves = subst (λ (g : Tagged). Weaves s whole g c.put.new.self) (rest_is s o c.args.to.offset h.laid) (c.in_ok-put.ensures s [] whole rest refl end first) } in
    known s whole tail) c.completed.ensures.tags
