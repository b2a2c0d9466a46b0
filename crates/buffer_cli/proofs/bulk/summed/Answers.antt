use Rattle.std.proofs.Common.{◌∙◌, ◌*◌, length, ap, sym}
use Rattle.machine.specs.declared.command.Script.{Script}
use Rattle.generator.specs.Generator.{state_after, blocks}
use Rattle.buffer_cli.proofs.PatternLemmas.{script_is, session_many}
use Rattle.buffer_cli.proofs.SavedLemmas.{names_of_one}
use Rattle.buffer_cli.proofs.bulk.summed.Goals as goal

pub perform_unsaved-requires-clause-matchers : goal.perform_unsaved-requires-clause-matchers
perform_unsaved-requires-clause-matchers c = λ κs.
    let sessions = ap (λ (s : Script). s.sessions) c.in_ok-script.ensures in
    let none = (c.made_script_has_no_patterns.ensures c.args.bulking.first c.args.bulking.edits).0 in
    ap length c.new-matchers.ensures.items ∙ sym (ap length (script_is c.in_ok-script.script _ sessions) ∙ (session_many (blocks (state_after (5 * c.args.bulking.edits * 0) c.args.bulking.first) c.args.bulking.edits) ∙ none))

pub perform_unsaved-requires-clause-none : goal.perform_unsaved-requires-clause-none
perform_unsaved-requires-clause-none c = λ κs.
    let sessions = ap (λ (s : Script). s.sessions) c.in_ok-script.ensures in
    let none = (c.made_script_has_no_saves.ensures c.args.bulking.first c.args.bulking.edits).0 in
    ap length (names_of_one c.in_ok-script.script.sessions _ sessions ∙ none)
