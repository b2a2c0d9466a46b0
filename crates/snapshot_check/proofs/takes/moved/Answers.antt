use Rattle.std.proofs.Common.{sym, ◌∙◌}
use Rattle.snapshot_check.proofs.GatherLemmas.{stage_kept, stage_last}
use Rattle.snapshot_check.proofs.takes.moved.Goals as goal

pub returns-in-None-clause-stage : goal.returns-in-None-clause-stage
returns-in-None-clause-stage c = stage_kept c.args.replies.now c.args.place c.index-replies-place.result c.args.stage c.requires.reply c.index-replies-place.is (sym c.in-None.is ∙ c.number_of.ensures) c.requires.stage

pub returns-in-Some-clause-stage : goal.returns-in-Some-clause-stage
returns-in-Some-clause-stage c = record {
  last = stage_last c.args.replies.now c.args.place c.in-Some.number c.index-replies-place.result c.requires.reply c.index-replies-place.is (sym c.in-Some.is ∙ c.number_of.ensures);
  next = c.next_number.ensures;
}
