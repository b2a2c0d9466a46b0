use Rattle.buffer_cli.specs.Put.{ArePut}
use Rattle.buffer_cli.proofs.regexes.RegexMatcherMatcher.find_all.Given as goal

abbrev pub invariant-loop-found : goal.invariant-loop-found
invariant-loop-found l = ArePut l.text l.limit l.initial.into l.into l.seen
