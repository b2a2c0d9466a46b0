use Rattle.std.proofs.Common.{◌≡◌, ◌<◌, ℕ, List, [], None, length, sym, ap, ◌∙◌, arith, rules, tests}
use Rattle.std.specs.Prelude.{option_map}
use Rattle.std.specs.List.{slice_get}
use Rattle.std.proofs.lemmas.Option.{slice_get-get_or, get_or_from_slice_get}
use Rattle.std.proofs.lemmas.Iterator.Consumers.{nth_from_yields_List}
use Rattle.std.proofs.lemmas.Iterator.Splits.{YieldsList-from_slice_split}
use Rattle.std.proofs.lemmas.List.Splits.{length-slice_split}
use Rattle.points.specs.Text.{is_lf}
use Rattle.points.specs.Place.{rows_of}
use Rattle.plain_replay.proofs.clip.row_of.Goals as goal

none_found : (xs : List (List ℕ)) (i : ℕ) → i < length xs → None ≡ slice_get xs i → ⊥
none_found xs i within none = let some = slice_get-get_or xs i [] within in cc

pub unreachable-requires : goal.unreachable-requires
unreachable-requires c =
    let found = nth_from_yields_List c.nth.result c.nth.new.self c.args.row c.nth.ensures.ran
    (YieldsList-from_slice_split _ is_lf c.args.units.now c.split.ensures.rest c.split.ensures.done c.split.ensures.closure (λ x b q k. search (rules, tests))) in
    none_found (rows_of c.args.units.now) c.args.row (omega (arith, length-slice_split is_lf c.args.units.now, c.requires))
    (ap (option_map (λ r. r.now)) (sym c.in-None.is) ∙ found)

pub returns : goal.returns
returns c =
    let found = nth_from_yields_List c.nth.result c.nth.new.self c.args.row c.nth.ensures.ran
    (YieldsList-from_slice_split _ is_lf c.args.units.now c.split.ensures.rest c.split.ensures.done c.split.ensures.closure (λ x b q k. search (rules, tests))) in
    sym (get_or_from_slice_get (rows_of c.args.units.now) c.args.row c.in-Some.units.now []
    (sym (ap (option_map (λ r. r.now)) (sym c.in-Some.is) ∙ found)))
