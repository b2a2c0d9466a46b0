use Rattle.buffer_cli.proofs.CheckLemmas.{few_sessions, few_commands, judges_by}
use Rattle.buffer_cli.proofs.check.judge_over.Goals as goal

pub lawful-requires-clause-sessions : goal.lawful-requires-clause-sessions
lawful-requires-clause-sessions g c = λ κs lives. few_sessions c.args.script.now c.commands_of.result.now c.commands_of.ensures

pub lawful-requires-clause-commands : goal.lawful-requires-clause-commands
lawful-requires-clause-commands g c = λ κs lives. few_commands c.args.script.now c.commands_of.result.now c.commands_of.ensures c.requires.limits

pub returns-clause-ok : goal.returns-clause-ok
returns-clause-ok g c =
    judges_by _ c.args.script.now c.commands_of.result.now _ c.args.transcript.now _ _ c.commands_of.ensures c.in-Ok.ensures.made c.in_ok-verdict.ensures.found c.in_ok-verdict.ensures.told
