use Rattle.std.proofs.Common.{◌≡◌, ◌∙◌, Some, None, map, string_bytes, rules}
use Rattle.clap.specs.Simple.{app_of, subcommand_rows_of}
use Rattle.command_words.proofs.Lines.{answered, unanswered, built_is_simple, built_is_free}
use Rattle.command_words.proofs.read.read_words.Goals as goal

pub returns-in-Ok-Some-clause-line : goal.returns-in-Ok-Some-clause-line
returns-in-Ok-Some-clause-line c =
    let app = app_of c.in-Ok.command in
    let some : Some c.in-Ok-Some.line ≡ c.in-Ok-Some.field-0 = search rules in
    answered app (map string_bytes c.args.words.now) (subcommand_rows_of c.in-Ok-try_get_matches_from.matches) (Some c.in-Ok-Some.line) c.in-Ok.ensures
    (c.in-Ok-try_get_matches_from.ensures.kinds (built_is_free app c.in-Ok.ensures))
    (c.in-Ok-try_get_matches_from.ensures.matches (built_is_simple app c.in-Ok.ensures)).1 (some ∙ c.in-Ok-Some.ensures.line)

pub returns-in-Ok-Some-clause-refused : goal.returns-in-Ok-Some-clause-refused
returns-in-Ok-Some-clause-refused c = λ none. let some = returns-in-Ok-Some-clause-line c in absurd cc

pub returns-in-Ok-None-clause-usage :
    goal.returns-in-Ok-None-clause-usage
returns-in-Ok-None-clause-usage c = λ _.
    let app = app_of c.in-Ok.command in
    let none : None ≡ c.in-Ok-None.field-0 = search rules in
    answered app (map string_bytes c.args.words.now) (subcommand_rows_of c.in-Ok-try_get_matches_from.matches) None c.in-Ok.ensures
    (c.in-Ok-try_get_matches_from.ensures.kinds (built_is_free app c.in-Ok.ensures))
    (c.in-Ok-try_get_matches_from.ensures.matches (built_is_simple app c.in-Ok.ensures)).1 (none ∙ c.in-Ok-None.ensures.line)

pub returns-clause-usage : goal.returns-clause-usage
returns-clause-usage c = λ usage.
    let app = app_of c.in-Ok.command in
    unanswered app (map string_bytes c.args.words.now) c.in-Err.error c.in-Ok.ensures
    (c.in-Err.ensures.kinds (built_is_free app c.in-Ok.ensures)) (c.refusal_of.ensures cc)
