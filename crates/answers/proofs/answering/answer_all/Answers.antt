use Rattle.std.proofs.Common.{◌∙◌, List, ap, sym, subst}
use Rattle.std.proofs.lemmas.List.{nil_from_length}
use Rattle.std.specs.Prelude.{map}
use Rattle.answers.specs.declared.read.Read.{Read}
use Rattle.answers.specs.Asks.{ask, AreAnswers}
use Rattle.answers.proofs.AnswerLemmas.{ahead_end}
use Rattle.answers.proofs.answering.answer_all.Goals as goal

pub returns : goal.returns
returns g c =
    subst (λ (rs : List (Read _ _)). AreAnswers g.K.Sink.taken g.K.Sink.faults c.args.reader.now.text (map (ask g.M.Matcher.tells g.K.Sink.taken g.K.Sink.faults) rs) c.loop-read.answers.items)
    c.into_iter-read-iterator.ensures.into_iter_gives.0
    (ahead_end g.K.Sink.taken g.K.Sink.faults c.args.reader.now.text _ _ _ (ap (map (ask g.M.Matcher.tells g.K.Sink.taken g.K.Sink.faults)) (nil_from_length _ (sym c.loop-read.read-iterator.rest.ok.0 ∙ c.in-None.ensures.steps.0))) c.loop-read.invariant.ahead)
