use Rattle.std.proofs.Common.{List, ℕ, Option, sym, subst}
use Rattle.outer.specs.Sink.{AppendsPrefix}
use Rattle.outer.proofs.Appended.{AppendsPrefix-all}
use Rattle.codecs.proofs.Sending.{on_err}
use Rattle.codecs.proofs.saving.finish.Goals as goal

pub returns-in_err-flush-clause-prefix : goal.returns-in_err-flush-clause-prefix
returns-in_err-flush-clause-prefix g c = on_err c.from_residual-in_err-flush.result (subst (λ (t : Option (List ℕ)). AppendsPrefix c.args.out.held (g.K.Sink.taken c.args.sink.now) t) (sym c.flush.ensures.kept)
    (AppendsPrefix-all c.args.out.held (g.K.Sink.taken c.args.sink.now) (g.K.Sink.taken c.put_held.new.sink) c.in_ok-put_held.ensures.put))
