use Rattle.std.proofs.Common.{◌≡◌, ◌∙◌, ℕ, true, map, sym, subst, arith}
use Rattle.std.proofs.lemmas.List.{length-map}
use Rattle.buffer_cli.proofs.SnapshotReads.{answered_read_at, reads_next, enough_next}
use Rattle.buffer_cli.specs.Answered.{is_answered_read}
use Rattle.buffer_cli.proofs.SavedLemmas.{files_first, files_end}
use Rattle.buffer_cli.proofs.reads.answer_reads.Goals as goal

pub loop-read-preserved : goal.loop-read-preserved
loop-read-preserved g c =
    let t = c.args.snapshot.now.text in
    let rs = c.args.reads.now in
    let i = c.loop-read.read-index in
    let r = c.read-item.result in
    let a = c.in_ok-answer_read.field-0 in
    let now = map g.M.Matcher.tells c.loop-read.matchers.items in
    let later = map g.M.Matcher.tells c.answer_read.new.matchers.items in
    let enough = enough_next t now later rs i r a c.loop-read-test.true c.read-item.is c.in_ok-answer_read.ensures.answers (omega (arith, c.loop-read.invariant.enough, length-map c.loop-read.matchers.items g.M.Matcher.tells)) in
    record {
      answers = rw c.in_ok-push.ensures.items (reads_next t _ now later rs i r c.loop-read.answers.items a c.loop-read-test.true c.read-item.is c.loop-read.invariant.answers c.in_ok-answer_read.ensures.answers);
      many = c.answer_read.ensures.many ∙ c.loop-read.invariant.many;
      saved = λ last h. c.loop-read.invariant.saved last (files_first t rs i r _ _ last c.loop-read-test.true c.read-item.is c.in_ok-answer_read.ensures.saved h);
      enough = omega (arith, enough, length-map c.answer_read.new.matchers.items g.M.Matcher.tells);
    }

pub answer_read-requires-clause-answered : goal.answer_read-requires-clause-answered
answer_read-requires-clause-answered g c = λ κs lives. subst (λ (n : ℕ). is_answered_read n c.read-item.result ≡ true) (sym c.loop-read.invariant.many)
    (answered_read_at _ c.args.reads.now c.loop-read.read-index c.read-item.result c.loop-read-test.true c.read-item.is c.requires.answered)

pub returns-clause-saved : goal.returns-clause-saved
returns-clause-saved g c = c.loop-read.invariant.saved _ (files_end c.args.snapshot.now.text c.args.reads.now c.loop-read.read-index _ c.loop-read-test.false)
