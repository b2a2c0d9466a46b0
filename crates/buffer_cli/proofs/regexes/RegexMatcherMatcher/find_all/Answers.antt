use Rattle.std.proofs.Common.{refl}
use Rattle.buffer_cli.proofs.PutLemmas.{put_none}
use Rattle.buffer_cli.proofs.regexes.RegexMatcherMatcher.find_all.Goals as goal

pub loop-found-init : goal.loop-found-init
loop-found-init c = put_none c.args.text.now c.args.limit c.args.into.now _ refl refl

pub loop-found-preserved-in-Continue-branch-2 : goal.loop-found-preserved-in-Continue-branch-2
loop-found-preserved-in-Continue-branch-2 c = c.in_ok-put.ensures c.args.into.now c.loop-found.invariant
