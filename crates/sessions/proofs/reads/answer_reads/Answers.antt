use Rattle.std.proofs.Common.{◌≤◌, map, drop, length, ap, arith, ◌+◌, ◌∷◌, List}
use Rattle.std.specs.Prelude.{count_by}
use Rattle.std.proofs.lemmas.List.{length-map, drop_all}
use Rattle.machine.specs.declared.reads.Read.{Read}
use Rattle.machine.specs.Lawful.{is_pattern}
use Rattle.sessions.proofs.ReadLemmas.{rest_at, reading_next, reading_done, enough_left}
use Rattle.sessions.proofs.reads.answer_reads.Goals as goal

pub loop-read-preserved : goal.loop-read-preserved
loop-read-preserved g c =
    let t = c.args.reader.now.text in
    let rs = c.args.reads.now in
    let i = c.loop-read.read-index in
    let r = c.read-item.result in
    let a = c.in_ok-answer_read.field-0 in
    let now = map g.M.Matcher.tells c.loop-read.matchers.items in
    let later = map g.M.Matcher.tells c.answer_read.new.matchers.items in
    let at = rest_at rs i r c.loop-read-test.true c.read-item.is in
    let all : count_by is_pattern (r ∷ drop (i + 1) rs) ≤ length now = omega (arith, c.loop-read.invariant.enough, ap (λ (xs : List Read). count_by is_pattern xs) at, length-map c.loop-read.matchers.items g.M.Matcher.tells) in
    record {
      reading = reading_next t _ now later rs (drop i rs) (drop (i + 1) rs) r c.loop-read.answers.items _ a at c.in_ok-push.ensures.items c.in_ok-answer_read.ensures c.loop-read.invariant.reading;
      enough = omega (arith, enough_left t now later r (drop (i + 1) rs) a c.in_ok-answer_read.ensures all, length-map c.answer_read.new.matchers.items g.M.Matcher.tells);
    }

pub returns : goal.returns
returns g c = reading_done c.args.reader.now.text _ _ c.args.reads.now _ c.loop-read.answers.items (drop_all c.loop-read.read-index c.args.reads.now (omega (arith, c.loop-read-test.false))) c.loop-read.invariant.reading
