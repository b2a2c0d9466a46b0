use Rattle.std.proofs.Common.{◌≡◌, ◌∙◌, Some, refl, sym}
use Rattle.outer.specs.Count.{Rose}
use Rattle.buffer_cli.proofs.CheckLemmas.{complete_of}
use Rattle.buffer_cli.proofs.check.run_check.Goals as goal

pub returns-in-Ok-clause-complete : goal.returns-in-Ok-clause-complete
returns-in-Ok-clause-complete g c =
    let names : Some (c.in-Ok.names.script, c.in-Ok.names.transcript) ≡ Some (c.as_str.result.now, c.as_str-in-Ok.result.now) = rw (c.as_str.ensures, c.as_str-in-Ok.ensures) refl in
    complete_of (record {
      script = c.as_str.result.now;
      transcript = c.as_str-in-Ok.result.now;
      tells = g.P.PatternMaker.hits c.args.patterns.now;
      last = g.P.PatternMaker.refused c.check_files.new.patterns;
      files = g.F.Folder.files c.args.folder.now;
      files_after = g.F.Folder.files c.check_files.new.folder;
      before = g.O.Sink.taken c.args.output.now;
      after = g.O.Sink.taken c.check_files.new.output;
    }) (Rose (g.O.Sink.faults c.args.output.now) (g.O.Sink.faults c.check_files.new.output)) (Rose (g.F.Folder.loads c.args.folder.now) (g.F.Folder.loads c.check_files.new.folder))
    (Rose (g.P.PatternMaker.refusals c.args.patterns.now) (g.P.PatternMaker.refusals c.check_files.new.patterns)) _ (c.in-Ok.ensures.check ∙ names) c.check_files.result c.check_files.ensures.outcome
    c.check_files.ensures.write_fault c.check_files.ensures.load_fault c.check_files.ensures.pattern_refused
