use Rattle.std.proofs.Common.{◌≡◌, ◌≤◌, ◌++◌, drop, map}
use Rattle.buffer_cli.specs.Patterns.{patterns_among}
use Rattle.buffer_cli.proofs.matchers.make_for.Given as goal

abbrev pub invariant-loop-read : goal.invariant-loop-read
invariant-loop-read g l = record {
  same : g.P.PatternMaker.hits l.patterns ≡ g.P.PatternMaker.hits l.initial.patterns;
  count : g.P.PatternMaker.refusals l.initial.patterns ≤ g.P.PatternMaker.refusals l.patterns;
  made : map g.P.M.Matcher.tells l.matchers.items ++ map (g.P.PatternMaker.hits l.initial.patterns) (patterns_among (drop l.read-index l.reads))
      ≡ map g.P.M.Matcher.tells l.initial.matchers.items ++ map (g.P.PatternMaker.hits l.initial.patterns) (patterns_among l.reads);
}
