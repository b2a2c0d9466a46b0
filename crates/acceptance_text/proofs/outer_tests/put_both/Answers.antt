use Rattle.std.proofs.Common.{◌≡◌, List, ℕ, ◌++◌, Option, sym}
use Rattle.std.specs.Prelude.{Result, Ok, Err, OnErr}
use Rattle.outer.specs.Sink.{Appends, AppendsPrefix}
use Rattle.outer.proofs.Appended.{Appends-append, AppendsPrefix-all, AppendsPrefix-append, AppendsPrefix-more}
use Rattle.acceptance_text.proofs.outer_tests.put_both.Goals as goal

-- what holds in any case holds after an error
on_err : {T E : Type 0} (r : Result T E) (P : Type 0) → P → OnErr r P
on_err (Ok x) P p = tt
on_err (Err e) P p = p

pub returns-in_err-put-clause-failed : goal.returns-in_err-put-clause-failed
returns-in_err-put-clause-failed g c =
    on_err _ _ (AppendsPrefix-more c.args.first.now c.args.second.now _ _ c.in_err-put.ensures.failed)

pub returns-in_err-put-2-clause-failed : goal.returns-in_err-put-2-clause-failed
returns-in_err-put-2-clause-failed g c =
    on_err _ _ (AppendsPrefix-append c.args.first.now c.args.second.now _ _ _ c.in_ok-put.ensures.appends c.in_err-put-2.ensures.failed)

pub returns-clause-failed : goal.returns-clause-failed
returns-clause-failed g c =
    let all = c.args.first.now ++ c.args.second.now in
    let before = g.O.Sink.taken c.args.sink.now in
    let both = Appends-append c.args.first.now c.args.second.now _ _ _ c.in_ok-put.ensures.appends c.in_ok-put-2.ensures.appends in
    on_err _ (AppendsPrefix all before (g.O.Sink.taken c.flush.new.self))
    (rw c.flush.ensures.kept (AppendsPrefix-all all before (g.O.Sink.taken c.put-2.new.self) both))
