use Rattle.std.proofs.Common.{◌≡◌, true, false, None, Some, rules, arith}
use Rattle.std.specs.Prelude.{◌==◌, codes}
use Rattle.std.proofs.lemmas.Bool.Decides.{nat_tests}
use Rattle.serde_json.specs.View.{view}
use Rattle.script.specs.Parts.{member_count, string_in}
use Rattle.script.specs.ScriptDocument.{encoding_of}
use Rattle.script.specs.Rules.{is_name}
use Rattle.script.proofs.Openings.{bad_encoding, bad_name, good_file}
use Rattle.script.proofs.opening.read_file.Goals as goal

pub returns-in_default-encoding_of-clause-broken : goal.returns-in_default-encoding_of-clause-broken
returns-in_default-encoding_of-clause-broken c =
    let d = view c.args.value.now in
    let two : (member_count d == 2) ≡ true = grind (arith, nat_tests) in
    let file : string_in (codes "file") d ≡ Some c.in-Some.name.now = search rules in
    let code : string_in (codes "encoding") d ≡ Some c.in-Some-text_in.word.now = search rules in
    let lacks : encoding_of c.in-Some-text_in.word.now ≡ None = search rules in
    bad_encoding d c.in-Some.name.now c.in-Some-text_in.word.now c.requires two file code c.broken-in_default-encoding_of.result lacks c.broken-in_default-encoding_of.ensures

pub returns-then-not-is_name-clause-broken : goal.returns-then-not-is_name-clause-broken
returns-then-not-is_name-clause-broken c =
    let d = view c.args.value.now in
    let two : (member_count d == 2) ≡ true = grind (arith, nat_tests) in
    let file : string_in (codes "file") d ≡ Some c.in-Some.name.now = search rules in
    let code : string_in (codes "encoding") d ≡ Some c.in-Some-text_in.word.now = search rules in
    let has : encoding_of c.in-Some-text_in.word.now ≡ Some c.in-Some-encoding_of.encoding = search rules in
    let wrong : is_name c.in-Some.name.now ≡ false = search rules in
    bad_name d c.in-Some.name.now c.in-Some-text_in.word.now c.requires two file code c.broken-then-not-is_name.result c.in-Some-encoding_of.encoding has wrong c.broken-then-not-is_name.ensures

pub returns-clause-kept : goal.returns-clause-kept
returns-clause-kept c =
    let d = view c.args.value.now in
    let two : (member_count d == 2) ≡ true = grind (arith, nat_tests) in
    let file : string_in (codes "file") d ≡ Some c.in-Some.name.now = search rules in
    let code : string_in (codes "encoding") d ≡ Some c.in-Some-text_in.word.now = search rules in
    let has : encoding_of c.in-Some-text_in.word.now ≡ Some c.in-Some-encoding_of.encoding = search rules in
    let right : is_name c.in-Some.name.now ≡ true = search rules in
    good_file d c.in-Some.name.now c.in-Some-text_in.word.now c.requires two file code c.in-Some-encoding_of.encoding has right
