use Rattle.std.proofs.Common.{◌∙◌, Some, None}
use Rattle.clap.specs.Matches.{found_of}
use Rattle.command_words.proofs.Numbers.{number_found}
use Rattle.command_words.proofs.read.number_at.Goals as goal

pub returns-in-Some-clause-number : goal.returns-in-Some-clause-number
returns-in-Some-clause-number c = c.number_in.ensures.number ∙ number_found c.args.low c.args.high (found_of c.args.matches.now) c.args.name.now (Some c.in-Some.word.now) c.in-Some.ensures

pub returns-in-None-clause-number : goal.returns-in-None-clause-number
returns-in-None-clause-number c = number_found c.args.low c.args.high (found_of c.args.matches.now) c.args.name.now None c.in-None.ensures
