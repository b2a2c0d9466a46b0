use Rattle.std.proofs.Common.{refl, ◌∙◌, arith}
use Rattle.outer.proofs.Counts.{Rose-after}
use Rattle.buffer_cli.proofs.PatternLemmas.{made_by, reads_more, refused_later, all_made}
use Rattle.buffer_cli.proofs.matchers.make_for.Goals as goal

pub loop-read-init : goal.loop-read-init
loop-read-init g c = record { same = refl; count = omega arith; made = refl }

pub loop-read-preserved : goal.loop-read-preserved
loop-read-preserved g c =
    let i = c.loop-read.invariant in
    record {
      same = c.make_one.ensures.same ∙ i.same;
      count = omega (arith, i.count, c.make_one.ensures.count);
      made = reads_more (g.P.PatternMaker.hits c.args.patterns.now) _ _ _ c.args.reads.now c.loop-read.read-index c.read-item.result c.loop-read-test.true c.read-item.is (made_by _ _ _ _ _ i.same c.in-Ok.ensures.made) i.made;
    }

pub returns-in-Err-clause-same : goal.returns-in-Err-clause-same
returns-in-Err-clause-same g c = c.make_one.ensures.same ∙ c.loop-read.invariant.same

pub returns-in-Err-clause-count : goal.returns-in-Err-clause-count
returns-in-Err-clause-count g c = let i = c.loop-read.invariant in omega (arith, i.count, c.make_one.ensures.count)

pub returns-in-Err-clause-refused : goal.returns-in-Err-clause-refused
returns-in-Err-clause-refused g c = λ refused. refused_later c.args.reads.now c.loop-read.read-index c.read-item.result _ c.loop-read-test.true c.read-item.is (c.in-Err.ensures.refused refused)

pub returns-in-Err-clause-cause : goal.returns-in-Err-clause-cause
returns-in-Err-clause-cause g c = λ refused. Rose-after _ _ _ c.loop-read.invariant.count (c.in-Err.ensures.cause refused)

pub returns-clause-same : goal.returns-clause-same
returns-clause-same g c = c.loop-read.invariant.same

pub returns-clause-count : goal.returns-clause-count
returns-clause-count g c = c.loop-read.invariant.count

pub returns-clause-made : goal.returns-clause-made
returns-clause-made g c = all_made (g.P.PatternMaker.hits c.args.patterns.now) _ _ c.args.reads.now c.loop-read.read-index c.loop-read-test.false c.loop-read.invariant.made
