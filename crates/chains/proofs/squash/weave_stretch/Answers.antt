use Rattle.std.proofs.Common.{ℕ, ◌+◌, ◌++◌, take, Option, Some, subst, ap, ◌∙◌}
use Rattle.std.proofs.lemmas.Result.{on_ok_weaker}
use Rattle.chains.specs.Spots.{spot_in}
use Rattle.chains.specs.Stand.{StandsAt, tags_at}
use Rattle.chains.specs.Weaving.{Weaves}
use Rattle.chains.proofs.SquashLemmas.{kept_stretch, kept_weaves}
use Rattle.chains.proofs.squash.weave_stretch.Goals as goal

pub keep-requires : goal.keep-requires
keep-requires c = let r = c.requires in let base = c.args.base.now in let part = c.args.stretch.part in let k = c.in-Some.start in
    let stands : StandsAt base part (Some k) = subst (StandsAt base part) c.in-Some.is r.stands in record {
      text = base;
      front = take k base;
      kept = part;
      whole = r.whole;
      left = r.left;
      stretch = kept_stretch base part k c.spot_in.result c.spot_in-in-Some.result stands c.spot_in.ensures (c.spot_in-in-Some.ensures ∙ ap (λ (n : ℕ). spot_in base (k + n)) c.len.ensures.value);
      weaves = kept_weaves base part k c.spot_in.result c.spot_in-in-Some.result stands r.whole r.left c.args.weaver.now (subst (λ (b : Option ℕ). Weaves base r.whole (tags_at part b ++ r.left) c.args.weaver.now) c.in-Some.is r.weaves);
    }

pub returns-in-Some : goal.returns-in-Some
returns-in-Some c = let base = c.args.base.now in let part = c.args.stretch.part in let k = c.in-Some.start in
    let stands : StandsAt base part (Some k) = subst (StandsAt base part) c.in-Some.is c.requires.stands in
    on_ok_weaker c.keep.result (λ keeps whole left weaves. keeps base (take k base) part whole left
    (kept_stretch base part k c.spot_in.result c.spot_in-in-Some.result stands c.spot_in.ensures (c.spot_in-in-Some.ensures ∙ ap (λ (n : ℕ). spot_in base (k + n)) c.len.ensures.value))
    (kept_weaves base part k c.spot_in.result c.spot_in-in-Some.result stands whole left c.args.weaver.now (subst (λ (b : Option ℕ). Weaves base whole (tags_at part b ++ left) c.args.weaver.now) c.in-Some.is weaves))) c.keep.ensures
