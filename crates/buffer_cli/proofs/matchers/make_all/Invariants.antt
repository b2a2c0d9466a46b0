use Rattle.std.proofs.Common.{◌≡◌, ◌≤◌, ◌++◌, drop, map}
use Rattle.buffer_cli.specs.Patterns.{session_patterns}
use Rattle.buffer_cli.proofs.matchers.make_all.Given as goal

abbrev pub invariant-loop-command : goal.invariant-loop-command
invariant-loop-command g l = record {
  number : l.number ≡ l.command-index;
  same : g.P.PatternMaker.hits l.patterns ≡ g.P.PatternMaker.hits l.initial.patterns;
  count : g.P.PatternMaker.refusals l.initial.patterns ≤ g.P.PatternMaker.refusals l.patterns;
  made : map g.P.M.Matcher.tells l.matchers.items ++ map (g.P.PatternMaker.hits l.initial.patterns) (session_patterns (drop l.command-index l.commands))
      ≡ map (g.P.PatternMaker.hits l.initial.patterns) (session_patterns l.commands);
}
