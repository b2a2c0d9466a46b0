use Rattle.std.proofs.Common.{◌≡◌, List, ℕ, ◌+◌, ◌-◌, ◌++◌, length, take, slice_range, ◌∙◌, sym, subst, arith}
use Rattle.std.proofs.lemmas.Result.{on_ok_weaker}
use Rattle.patch.specs.Tagged.{untagged}
use Rattle.chains.specs.Weaving.{Weaves}
use Rattle.chains.specs.Overlay.{end_of}
use Rattle.chains.proofs.EditLemmas.{put_none, put_units, put_to, put_order, put_within, spot_behind}
use Rattle.chains.proofs.overlay.Overlay.weave_put.Goals as goal

pub returns-in_default : goal.returns-in_default
returns-in_default c = λ s t n k p whole left put lies from_in to_in weaves.
    put_none s whole left c.args.weaver.now (slice_range k (c.args.from.offset - length n) (c.args.to.offset - length n)) (c.in_default.ensures t n k lies from_in to_in) weaves

pub overflow_sub-first : goal.overflow_sub-first
overflow_sub-first c = let r = c.requires in let e = c.in-Some.ensures r.made r.news r.stretch r.lies r.from_in r.to_in in spot_behind r.news r.stretch c.args.cut.new c.in-Some.part.from (c.args.from.offset - length r.news) r.lies.start_is e.0

pub overflow_add-first : goal.overflow_add-first
overflow_add-first c = let r = c.requires in let e = c.in-Some.ensures r.made r.news r.stretch r.lies r.from_in r.to_in in omega (arith, put_order c.args.self.now c.args.cut r.made r.news r.stretch r.puts c.in-Some.part.from c.in-Some.part.to (c.args.from.offset - length r.news) (c.args.to.offset - length r.news) r.put r.lies.start_is e.0 e.1 e.2, put_within c.args.self.now c.args.cut r.made r.news r.stretch r.puts c.in-Some.part.from c.in-Some.part.to (c.args.from.offset - length r.news) (c.args.to.offset - length r.news) r.put r.lies.start_is e.0 e.1 e.2, r.short)

pub overflow_cast-first : goal.overflow_cast-first
overflow_cast-first c = let r = c.requires in let e = c.in-Some.ensures r.made r.news r.stretch r.lies r.from_in r.to_in in omega (arith, put_order c.args.self.now c.args.cut r.made r.news r.stretch r.puts c.in-Some.part.from c.in-Some.part.to (c.args.from.offset - length r.news) (c.args.to.offset - length r.news) r.put r.lies.start_is e.0 e.1 e.2, put_within c.args.self.now c.args.cut r.made r.news r.stretch r.puts c.in-Some.part.from c.in-Some.part.to (c.args.from.offset - length r.news) (c.args.to.offset - length r.news) r.put r.lies.start_is e.0 e.1 e.2, r.short)

pub overflow_sub-last : goal.overflow_sub-last
overflow_sub-last c = let r = c.requires in let e = c.in-Some.ensures r.made r.news r.stretch r.lies r.from_in r.to_in in spot_behind r.news r.stretch c.args.cut.new c.in-Some.part.to (c.args.to.offset - length r.news) r.lies.start_is e.1

pub overflow_add-last : goal.overflow_add-last
overflow_add-last c = let r = c.requires in let e = c.in-Some.ensures r.made r.news r.stretch r.lies r.from_in r.to_in in omega (arith, put_within c.args.self.now c.args.cut r.made r.news r.stretch r.puts c.in-Some.part.from c.in-Some.part.to (c.args.from.offset - length r.news) (c.args.to.offset - length r.news) r.put r.lies.start_is e.0 e.1 e.2, r.short)

pub overflow_cast-last : goal.overflow_cast-last
overflow_cast-last c = let r = c.requires in let e = c.in-Some.ensures r.made r.news r.stretch r.lies r.from_in r.to_in in omega (arith, put_within c.args.self.now c.args.cut r.made r.news r.stretch r.puts c.in-Some.part.from c.in-Some.part.to (c.args.from.offset - length r.news) (c.args.to.offset - length r.news) r.put r.lies.start_is e.0 e.1 e.2, r.short)

pub part-requires-clause-order : goal.part-requires-clause-order
part-requires-clause-order c = let r = c.requires in let e = c.in-Some.ensures r.made r.news r.stretch r.lies r.from_in r.to_in in put_order c.args.self.now c.args.cut r.made r.news r.stretch r.puts c.in-Some.part.from c.in-Some.part.to (c.args.from.offset - length r.news) (c.args.to.offset - length r.news) r.put r.lies.start_is e.0 e.1 e.2

pub part-requires-clause-within : goal.part-requires-clause-within
part-requires-clause-within c = let r = c.requires in let e = c.in-Some.ensures r.made r.news r.stretch r.lies r.from_in r.to_in in put_within c.args.self.now c.args.cut r.made r.news r.stretch r.puts c.in-Some.part.from c.in-Some.part.to (c.args.from.offset - length r.news) (c.args.to.offset - length r.news) r.put r.lies.start_is e.0 e.1 e.2

pub put-requires : goal.put-requires
put-requires c = let r = c.requires in let e = c.in-Some.ensures r.made r.news r.stretch r.lies r.from_in r.to_in in let same : c.part.result ≡ slice_range r.stretch (c.args.from.offset - length r.news) (c.args.to.offset - length r.news) = c.part.ensures ∙ put_units c.args.self.now c.args.cut r.made r.news r.stretch r.puts c.in-Some.part.from c.in-Some.part.to (c.args.from.offset - length r.news) (c.args.to.offset - length r.news) r.put r.lies.start_is e.0 e.1 e.2 in record {
  text = r.text;
  whole = r.whole;
  left = r.left;
  front = r.news ++ take (c.args.from.offset - length r.news) r.stretch;
  from_is = e.0;
  to_is = subst (λ (us : List ℕ). c.in-Some.part.to ≡ end_of (r.news ++ take (c.args.from.offset - length r.news) r.stretch ++ us)) (sym same) (put_to c.args.self.now c.args.cut r.made r.news r.stretch r.puts c.in-Some.part.from c.in-Some.part.to (c.args.from.offset - length r.news) (c.args.to.offset - length r.news) r.put r.lies.start_is e.0 e.1 e.2);
  weaves = subst (λ (us : List ℕ). Weaves r.text r.whole (untagged us ++ r.left) c.args.weaver.now) (sym same) r.weaves;
}

pub returns : goal.returns
returns c = on_ok_weaker c.put.result (λ puts s t n k p whole left put lies from_in to_in weaves. let e = c.in-Some.ensures t n k lies from_in to_in in
    let a = c.args.from.offset - length n in let b = c.args.to.offset - length n in
    let same : c.part.result ≡ slice_range k a b = c.part.ensures ∙ put_units c.args.self.now c.args.cut t n k p c.in-Some.part.from c.in-Some.part.to a b put lies.start_is e.0 e.1 e.2 in
    puts s (n ++ take a k) whole left e.0
    (subst (λ (us : List ℕ). c.in-Some.part.to ≡ end_of (n ++ take a k ++ us)) (sym same) (put_to c.args.self.now c.args.cut t n k p c.in-Some.part.from c.in-Some.part.to a b put lies.start_is e.0 e.1 e.2))
    (subst (λ (us : List ℕ). Weaves s whole (untagged us ++ left) c.args.weaver.now) (sym same) weaves)) c.put.ensures
