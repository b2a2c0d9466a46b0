use Rattle.std.proofs.Common.{◌∙◌, ap}
use Rattle.patch.specs.LookUp.{to_old}
use Rattle.patch.proofs.LookUpLemmas.{to_old_none, to_old_some}
use Rattle.patch.proofs.SurvivorLemmas.{survivor_to_old}
use Rattle.patch.proofs.patch.Patch.to_old.Goals as goal

pub returns-in-None-clause-value : goal.returns-in-None-clause-value
returns-in-None-clause-value c = c.near.ensures ∙ to_old_none c.args.self.now.changes c.args.point c.change_for_new.result c.change_if.result c.change_if.ensures.value c.change_for_new.ensures c.in-None.is

pub returns-in-None-clause-survivor : goal.returns-in-None-clause-survivor
returns-in-None-clause-survivor c s i j fits survives at = returns-in-None-clause-value c ∙ (ap (to_old c.args.self.now.changes) at ∙ survivor_to_old c.args.self.now.changes s i j c.change_if.ensures.kept fits survives)

pub returns-in-Some-clause-value : goal.returns-in-Some-clause-value
returns-in-Some-clause-value c = c.moved_over.ensures ∙ to_old_some c.args.self.now.changes c.args.point c.change_for_new.result c.change_if.result c.change_if.ensures.value c.in-Some.change c.change_for_new.ensures c.in-Some.is

pub returns-in-Some-clause-survivor : goal.returns-in-Some-clause-survivor
returns-in-Some-clause-survivor c s i j fits survives at = returns-in-Some-clause-value c ∙ (ap (to_old c.args.self.now.changes) at ∙ survivor_to_old c.args.self.now.changes s i j c.change_if.ensures.kept fits survives)
