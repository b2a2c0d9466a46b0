use Rattle.std.proofs.Common.{ℕ, List, Bor, map, sym, ◌∙◌}
use Rattle.std.proofs.lemmas.List.{length-map}
use Rattle.points.specs.Text.{utf16_of}
use Rattle.machine.specs.Machine.{opened}
use Rattle.buffer_cli.proofs.SavedLemmas.{names_apart, all_held}
use Rattle.buffer_cli.proofs.answer.write_saving.Goals as goal

pub keep_all-requires-clause-apart : goal.keep_all-requires-clause-apart
keep_all-requires-clause-apart g c = names_apart c.args.script.now (map (λ (n : Bor (List ℕ)). n.now) c.args.names.now) c.requires.names c.requires.limits

pub returns-in-Ok-keep_all-clause-saved : goal.returns-in-Ok-keep_all-clause-saved
returns-in-Ok-keep_all-clause-saved g c =
    all_held g.F.Out.Sink.taken g.F.Out.Sink.faults (opened (utf16_of c.args.text.now)) c.in-Ok.sinks.items c.write_with.new.sinks.items (g.F.Folder.files c.keep_all.new.folder) c.in-Ok.ensures.fresh
    c.args.script.now.sessions (map (λ (n : Bor (List ℕ)). n.now) c.args.names.now) c.requires.names c.requires.limits.one
    (c.in-Ok.ensures.many ∙ sym (length-map c.args.names.now (λ (n : Bor (List ℕ)). n.now))) c.in-Ok-write_with.ensures.saved c.in-Ok-keep_all.ensures.hold
