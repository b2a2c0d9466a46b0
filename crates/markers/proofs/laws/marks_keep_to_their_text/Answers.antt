use Rattle.points.proofs.MarkTextLemmas.{splice_in_is, splice_within, marks_moved}
use Rattle.markers.proofs.laws.marks_keep_to_their_text.Goals as goal

pub returns-clause-splice : goal.returns-clause-splice
returns-clause-splice c = splice_in_is

pub returns-clause-fits : goal.returns-clause-fits
returns-clause-fits c t s i j ij jt short after all = splice_within t s i j 1073741824 ij jt short after c.args.index.now all

pub returns-clause-kept : goal.returns-clause-kept
returns-clause-kept c t s i j ij jt all = marks_moved t s i j ij jt c.args.index.now all
