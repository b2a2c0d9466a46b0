use Rattle.std.proofs.Common.{◌<◌, ◌≤◌, [], ◌∷◌, length, subst, arith}
use Rattle.std.specs.Prelude.{count_by}
use Rattle.machine.specs.declared.reads.Read.{Read}
use Rattle.machine.specs.declared.reads.Read.TheVariants as read
use Rattle.machine.specs.Lawful.{is_pattern}
use Rattle.buffer_cli.proofs.HitLemmas.{patterns_more, matched_done, first_taken}
use Rattle.buffer_cli.proofs.reads.answer_unsaved.Goals as goal

pub returns-in-Pattern : goal.returns-in-Pattern
returns-in-Pattern g c =
    let r : Read = read.Pattern c.in-Pattern.pattern c.in-Pattern.limit in
    let enough : count_by is_pattern (r ∷ []) ≤ length c.args.matchers.now.items = subst (λ (x : Read). count_by is_pattern (x ∷ []) ≤ length c.args.matchers.now.items) c.in-Pattern.is c.requires.enough in
    let some_left : 0 < length c.args.matchers.now.items = omega (arith, enough, patterns_more r []) in
    rw c.in-Pattern.is (matched_done c.args.snapshot.now.text _ _ (g.M.Matcher.tells c.remove.result) c.in-Pattern.pattern c.in-Pattern.limit c.match_with.result
    (first_taken g.M.Matcher.tells c.args.matchers.now.items c.remove.new.self.items c.remove.result c.remove.ensures.value c.remove.ensures.by_index.2 some_left) c.match_with.ensures)
