use Rattle.std.proofs.Common.{◌≡◌, ℕ, List, Bor, length, map, sym, ap, ◌∙◌, arith}
use Rattle.std.proofs.lemmas.List.{length-map}
use Rattle.points.specs.Text.{utf16_of}
use Rattle.machine.specs.Machine.{opened}
use Rattle.buffer_cli.specs.Saved.{names_saved}
use Rattle.buffer_cli.proofs.SavedLemmas.{names_two, none_held, on_ok, none_of_empty}
use Rattle.buffer_cli.proofs.answer.answer_over.Goals as goal

pub returns-then-is_empty-clause-saved : goal.returns-then-is_empty-clause-saved
returns-then-is_empty-clause-saved g c =
    let names = map (λ (n : Bor (List ℕ)). n.now) c.in-Ok-names_of.names.items in
    let are = names_two c.args.script.now.sessions c.commands_of-2.result.now names c.commands_of-2.ensures c.in-Ok-names_of.ensures in
    let empty : c.in-Ok-names_of.names.len ≡ 0 = none_of_empty c.is_empty.result c.in-Ok-names_of.names.len c.is_empty.ensures c.if-is_empty.true in
    let none : length c.in-Ok-names_of.names.items ≡ 0 = omega (arith, empty, c.in-Ok-names_of.names.ok) in
    let no_names : length (names_saved c.args.script.now.sessions) ≡ 0 = sym (ap length are) ∙ length-map c.in-Ok-names_of.names.items (λ (n : Bor (List ℕ)). n.now) ∙ none in
    on_ok c.match-write_unsaved.result (none_held (opened (utf16_of c.args.text.now)) c.args.script.now.sessions (g.F.Folder.files c.args.folder.now) c.requires.limits.one no_names)
