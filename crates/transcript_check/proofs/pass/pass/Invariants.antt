use Rattle.std.proofs.Common.{◌≡◌, ℕ, ◌<◌, length, map}
use Rattle.machine.specs.Lawful.{state_after}
use Rattle.machine.specs.FirstFault.{AgreesAt}
use Rattle.transcript_check.specs.Found.{AreVersions, AreSettled}
use Rattle.transcript_check.proofs.pass.pass.Given as goal

abbrev pub invariant-loop-i : goal.invariant-loop-i
invariant-loop-i g l = record {
  state : l.plain ≡ state_after l.initial.plain l.calls l.i;
  count : l.plain.count ≡ l.i;
  agree : (n : ℕ) → n < l.i → AgreesAt l.version l.initial.plain l.calls n;
  same : map g.M.Matcher.tells l.matchers.items ≡ map g.M.Matcher.tells l.initial.matchers.items;
  versions : AreVersions l.initial.plain l.calls l.i l.seen.versions.items;
  settled : AreSettled l.initial.plain l.calls (map g.M.Matcher.tells l.initial.matchers.items) l.linked.takes.items l.i l.seen.right.items;
  long : length l.seen.right.items ≡ length l.linked.takes.items;
}
