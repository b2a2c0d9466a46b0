use Rattle.std.proofs.Common.{[], refl, arith}
use Rattle.chains.specs.declared.overlay.Overlay.{Overlay}
use Rattle.chains.proofs.WeaverLemmas.{done_short, finish_taken, finish_laid, finish_tags}
use Rattle.chains.proofs.weaver.Weaver.finish.Goals as goal

pub close-requires : goal.close-requires
close-requires c = let r = c.requires in (r.0, r.3.done, finish_taken r.0 r.1 c.args.self c.args.end r.2 r.3, r.3.short_text, omega (arith, done_short r.0 r.1 [] c.args.self r.3))

pub returns-clause-laid : goal.returns-clause-laid
returns-clause-laid c = λ s whole end_is weaves. finish_laid s whole c.args.self c.args.end end_is weaves c.close.new.self
    (c.in_ok-close.ensures.ok s weaves.done (finish_taken s whole c.args.self c.args.end end_is weaves)) c.in_ok-close.ensures.old _ refl refl refl refl

pub returns-clause-tags : goal.returns-clause-tags
returns-clause-tags c = λ s whole end_is weaves. let made : Overlay = record { cuts = c.close.new.self.cuts; text = c.close.new.self.text; end = c.close.new.self.at_new; units = c.close.new.self.units } in
    finish_tags s whole c.args.self c.args.end end_is weaves c.close.new.self
    (c.in_ok-close.ensures.ok s weaves.done (finish_taken s whole c.args.self c.args.end end_is weaves)) c.in_ok-close.ensures.old made refl refl refl refl
