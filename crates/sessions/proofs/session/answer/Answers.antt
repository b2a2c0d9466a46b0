use Rattle.std.proofs.Common.{sym, ◌∙◌, rules}
use Rattle.sessions.proofs.SessionLemmas.{play_answered, spent_out}
use Rattle.sessions.proofs.session.answer.Goals as goal

pub returns-then-is_call-clause-reply : goal.returns-then-is_call-clause-reply
returns-then-is_call-clause-reply g c =
    play_answered c.args.buffer.now _ c.args.command c.in_ok-play.field-0 c.args.holding.now.kept c.args.desk.now.views c.play.new.desk.views (sym c.is_call.ensures ∙ c.if-is_call.true) c.in_ok-play.ensures.ok

pub returns-in_err-play-clause-spent : goal.returns-in_err-play-clause-spent
returns-in_err-play-clause-spent g c = let out = spent_out c.args.buffer.now _ _ _ c.requires.desk.1 c.in_err-play.ensures.spent in search (rules, out)
