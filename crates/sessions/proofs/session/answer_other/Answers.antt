use Rattle.sessions.proofs.SessionLemmas.{read_answered, send_answered, take_answered, release_answered, squash_answered}
use Rattle.sessions.proofs.session.answer_other.Goals as goal

pub returns-in_ok-version-in-Take-clause-reply : goal.returns-in_ok-version-in-Take-clause-reply
returns-in_ok-version-in-Take-clause-reply g c =
    take_answered c.args.buffer.now _ c.args.command c.in-Take.snapshot c.in_ok-version-in-Take.version c.args.holding.now.kept _ c.args.desk.now.views _ c.in-Take.is c.in_ok-version-in-Take.ensures.taken

pub returns-in-Release-clause-reply : goal.returns-in-Release-clause-reply
returns-in-Release-clause-reply g c =
    release_answered c.args.buffer.now _ c.args.command c.in-Release.snapshot c.args.holding.now.kept _ c.args.desk.now.views c.in-Release.is c.release-in-Release.ensures.kept

pub returns-in_ok-squash-in-Squash-clause-reply : goal.returns-in_ok-squash-in-Squash-clause-reply
returns-in_ok-squash-in-Squash-clause-reply g c =
    squash_answered c.args.buffer.now _ c.args.command c.in_ok-squash-in-Squash.field-0 c.args.holding.now.kept c.args.desk.now.views _ c.in-Squash.is c.in_ok-squash-in-Squash.ensures.ok

pub returns-in_ok-answers-in-Read-clause-reply : goal.returns-in_ok-answers-in-Read-clause-reply
returns-in_ok-answers-in-Read-clause-reply g c =
    read_answered c.args.buffer.now _ _ c.args.command c.answered.result c.in-Read.snapshot c.in-Read.reads _ c.in_ok-answers-in-Read.answers.items c.args.holding.now.kept c.args.desk.now.views c.in-Read.is c.as_slice.ensures c.answered.ensures c.in_ok-answers-in-Read.ensures

pub returns-in_ok-answers-in-Send-clause-reply : goal.returns-in_ok-answers-in-Send-clause-reply
returns-in_ok-answers-in-Send-clause-reply g c =
    send_answered c.args.buffer.now _ _ c.args.command c.answered-in-Send.result c.in-Send.snapshot c.in-Send.reads _ c.in_ok-answers-in-Send.answers.items c.args.holding.now.kept _ c.args.desk.now.views c.in-Send.is c.as_slice-in-Send.ensures c.answered-in-Send.ensures c.release.ensures.kept c.in_ok-answers-in-Send.ensures
