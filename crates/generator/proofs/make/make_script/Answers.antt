use Rattle.std.proofs.Common.{rules, ◌≡◌, ℕ, ◌+◌, ◌*◌, List, [], ◌∷◌, ◌++◌, refl, add-one}
use Rattle.generator.specs.Generator.{state_after, blocks, made_sessions}
use Rattle.generator.proofs.Draws.{one_session_more}
use Rattle.machine.specs.declared.command.Command.{Command}
use Rattle.generator.proofs.make.make_script.Goals as goal

one_more : (x edits n s t : ℕ) (before after : List (List Command)) (made : List Command) → s ≡ state_after (5 * edits * n) x → before ≡ made_sessions x edits n
    → t ≡ state_after (5 * edits) s → made ≡ blocks s edits → after ≡ before ++ made ∷ []
    → (t ≡ state_after (5 * edits * (n + 1)) x) × (after ≡ made_sessions x edits (n + 1))
one_more x edits n s t before after made state sessions next commands added =
    (rw (next, state) (rw one_session_more refl), rw (added, sessions, commands, state, add-one n) refl)

pub loop-preserved : goal.loop-preserved
loop-preserved c =
    let both = one_more c.args.first c.args.edits c.loop.counter c.loop.drawing.state c.session.new.drawing.state c.loop.made.items c.push.new.self.items c.in_ok-session.field-0
    c.loop.invariant.state c.loop.invariant.made c.in_ok-session.ensures.state c.in_ok-session.ensures.commands (search rules) in
    record { state = both.0; made = both.1 }
