use Rattle.std.proofs.Common.{ap, ap₂, ◌∙◌}
use Rattle.std.proofs.lemmas.Result.{IfOk-weaker}
use Rattle.clap.specs.Simple.{App, with_subcommand}
use Rattle.command_words.proofs.command.command.Goals as goal

pub returns : goal.returns
returns c =
    let one = ap₂ with_subcommand c.top_command.ensures (ap (λ (a : App). a.top) c.in_ok-run.ensures.app) in
    let two = ap₂ with_subcommand (c.in_ok-subcommand.ensures.shape c.in_ok-run.ensures.local ∙ one) (ap (λ (a : App). a.top) c.in_ok-make.ensures.app) in
    let all = ap₂ with_subcommand (c.in_ok-subcommand-2.ensures.shape c.in_ok-make.ensures.local ∙ two) (ap (λ (a : App). a.top) c.in_ok-check.ensures.app) in
    let four = ap₂ with_subcommand (c.in_ok-subcommand-3.ensures.shape c.in_ok-check.ensures.local ∙ all) (ap (λ (a : App). a.top) c.in_ok-bulk.ensures.app) in
    IfOk-weaker c.subcommand-4.result _ _ (λ m h. h.shape c.in_ok-bulk.ensures.local ∙ four) c.subcommand-4.ensures
