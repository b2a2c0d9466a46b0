use Rattle.std.proofs.Common.{List, map}
use Rattle.std.specs.Prelude.{Option}
use Rattle.std.proofs.lemmas.Result.{IfOk-weaker}
use Rattle.points.specs.Text.{utf16_of}
use Rattle.machine.specs.declared.verdict.Verdict.{Verdict}
use Rattle.machine.specs.Answers.{Matches}
use Rattle.machine.specs.FirstFault.{IsVerdict}
use Rattle.transcript_check.specs.Found.{IsFound, AreAllTold}
use Rattle.transcript_check.proofs.ToldLemmas.{found_exact}
use Rattle.transcript_check.proofs.check.lawful.Goals as goal

pub returns-in-Some-clause-told : goal.returns-in-Some-clause-told
returns-in-Some-clause-told g c =
    let told : List (Option Matches) = map g.M.Matcher.tells c.args.matchers.now.items in
    IfOk-weaker c.judged.result (IsFound c.args.script.now (utf16_of c.args.opening.now) told c.args.transcript.now)
    (λ (v : Verdict). AreAllTold c.args.script.now told → IsVerdict c.args.script.now (utf16_of c.args.opening.now) told c.args.transcript.now v)
    (λ (v : Verdict) found enough. found_exact c.args.script.now (utf16_of c.args.opening.now) told c.args.transcript.now v enough found) c.judged.ensures.found
