use Rattle.std.proofs.Common.{◌≡◌, ◌+◌, ◌-◌, take, drop, map}
use Rattle.line_text.proofs.edit.move_starts.Given as goal

abbrev pub invariant-loop-start : goal.invariant-loop-start
invariant-loop-start l = record {
  moved : take l.start-index l.starts ≡ map (λ s. s - l.from + l.to) (take l.start-index l.initial.starts);
  rest : drop l.start-index l.starts ≡ drop l.start-index l.initial.starts;
}
