use Rattle.std.proofs.Common.{◌∙◌, ap}
use Rattle.patch.specs.LookUp.{to_new}
use Rattle.patch.proofs.LookUpLemmas.{to_new_none, to_new_some}
use Rattle.patch.proofs.SurvivorLemmas.{survivor_to_new}
use Rattle.patch.proofs.patch.Patch.to_new.Goals as goal

pub returns-in-None-clause-value : goal.returns-in-None-clause-value
returns-in-None-clause-value c = c.near.ensures ∙ to_new_none c.args.self.now.changes c.args.point c.change_for_old.result c.change_if.result c.change_if.ensures.value c.change_for_old.ensures c.in-None.is

pub returns-in-None-clause-survivor : goal.returns-in-None-clause-survivor
returns-in-None-clause-survivor c s i j fits survives at = returns-in-None-clause-value c ∙ (ap (to_new c.args.self.now.changes) at ∙ survivor_to_new c.args.self.now.changes s i j c.change_if.ensures.kept fits survives)

pub returns-in-Some-clause-value : goal.returns-in-Some-clause-value
returns-in-Some-clause-value c = c.moved_over.ensures ∙ to_new_some c.args.self.now.changes c.args.point c.change_for_old.result c.change_if.result c.change_if.ensures.value c.in-Some.change c.change_for_old.ensures c.in-Some.is

pub returns-in-Some-clause-survivor : goal.returns-in-Some-clause-survivor
returns-in-Some-clause-survivor c s i j fits survives at = returns-in-Some-clause-value c ∙ (ap (to_new c.args.self.now.changes) at ∙ survivor_to_new c.args.self.now.changes s i j c.change_if.ensures.kept fits survives)
