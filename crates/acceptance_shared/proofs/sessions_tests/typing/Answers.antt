use Rattle.std.proofs.Common.{rules, [], ◌++◌, ◌∷◌, ◌≡◌}
use Rattle.machine.specs.declared.command.Command.TheVariants as command
use Rattle.acceptance_shared.proofs.PlanLemmas.{can_edit, none_edit}
use Rattle.acceptance_shared.proofs.sessions_tests.typing.Goals as goal

pub loop-preserved : goal.loop-preserved
loop-preserved c =
    let more : c.push.new.self.items ≡ c.loop.commands.items ++ command.Edit c.start-range.result c.in_ok-text.text ∷ [] = search rules in
    record {
      can = rw more (can_edit 0 [] c.loop.commands.items c.start-range.result c.in_ok-text.text c.loop.invariant.can);
      none = rw more (none_edit c.loop.commands.items c.start-range.result c.in_ok-text.text c.loop.invariant.none);
    }
