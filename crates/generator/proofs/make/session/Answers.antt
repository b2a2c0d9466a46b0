use Rattle.std.proofs.Common.{◌≡◌, ℕ, ◌+◌, ◌*◌, List, ◌++◌, refl, add-one}
use Rattle.generator.specs.Generator.{state_after, block, blocks}
use Rattle.generator.proofs.Draws.{one_block_more}
use Rattle.machine.specs.declared.command.Command.{Command}
use Rattle.generator.proofs.make.session.Goals as goal

one_more : (x e s t : ℕ) (before after : List Command) → s ≡ state_after (5 * e) x → before ≡ blocks x e → t ≡ state_after 5 s
    → after ≡ before ++ block (e + 1) s → (t ≡ state_after (5 * (e + 1)) x) × (after ≡ blocks x (e + 1))
one_more x e s t before after state commands next added =
    (rw (next, state) (rw one_block_more refl), rw (added, commands, state, add-one e) refl)

pub loop-block-preserved : goal.loop-block-preserved
loop-block-preserved c =
    let both = one_more c.args.drawing.now.state c.loop-block.block c.loop-block.drawing.state c.add_block.new.drawing.state c.loop-block.commands.items c.add_block.new.commands.items
    c.loop-block.invariant.state c.loop-block.invariant.commands c.in_ok-add_block.ensures.state c.in_ok-add_block.ensures.added in
    record { state = both.0; commands = both.1 }
