use Rattle.std.proofs.Common.{◌≡◌, ◌||◌, not, ℕ, List, sym, subst, ◌∙◌}
use Rattle.std.specs.List.{list_all}
use Rattle.serde_json.specs.View.{view}
use Rattle.script.proofs.CommandTests.{IsEarly, unread_broken, needle_broken, name_broken, none_broken}
use Rattle.script.specs.Reading.{counted}
use Rattle.script.specs.Rules.{is_again, is_name, names_in, reads_in}
use Rattle.script.proofs.read.read_command.Goals as goal

pub returns-in-Err-Shape-clause-broken : goal.returns-in-Err-Shape-clause-broken
returns-in-Err-Shape-clause-broken c =
    let none = rw c.in-Err-Shape.field-0-is at c.in-Err-Shape.ensures in
    let early : IsEarly (counted c.args.before.now) (view c.args.value.now) = record {
      shape = sym c.is_misshapen.ensures ∙ c.if-is_misshapen.false;
      many = sym c.is_too_many.ensures ∙ c.if-is_too_many.false;
      unknown = sym c.lacks_snapshot.ensures ∙ c.if-lacks_snapshot.false;
      taken = sym c.takes_again.ensures ∙ c.if-takes_again.false;
    } in
    unread_broken (counted c.args.before.now) (view c.args.value.now) early _ none c.in_ok-why-in-Err-Shape.ensures

pub returns-then-not-has_needles-clause-broken : goal.returns-then-not-has_needles-clause-broken
returns-then-not-has_needles-clause-broken c =
    let early : IsEarly (counted c.args.before.now) (view c.args.value.now) = record {
      shape = sym c.is_misshapen.ensures ∙ c.if-is_misshapen.false;
      many = sym c.is_too_many.ensures ∙ c.if-is_too_many.false;
      unknown = sym c.lacks_snapshot.ensures ∙ c.if-lacks_snapshot.false;
      taken = sym c.takes_again.ensures ∙ c.if-takes_again.false;
    } in
    needle_broken (counted c.args.before.now) (view c.args.value.now) early c.in-Ok.command c.in-Ok.ensures (sym c.has_needles.ensures ∙ c.if-not-has_needles.true)

pub returns-then-refuses_names-clause-broken : goal.returns-then-refuses_names-clause-broken
returns-then-refuses_names-clause-broken c =
    let early : IsEarly (counted c.args.before.now) (view c.args.value.now) = record {
      shape = sym c.is_misshapen.ensures ∙ c.if-is_misshapen.false;
      many = sym c.is_too_many.ensures ∙ c.if-is_too_many.false;
      unknown = sym c.lacks_snapshot.ensures ∙ c.if-lacks_snapshot.false;
      taken = sym c.takes_again.ensures ∙ c.if-takes_again.false;
    } in
    let P : List (List ℕ) → Type 0 = λ names. c.refuses_names.result ≡ (not (list_all is_name names) || is_again (counted c.args.before.now).names names) in
    let refused : P (names_in (reads_in (view c.args.value.now))) = subst P (c.as_slice.ensures.value ∙ c.in_ok-names.ensures) c.refuses_names.ensures in
    name_broken (counted c.args.before.now) (view c.args.value.now) early c.in-Ok.command c.in-Ok.ensures c.refuses_names.result (sym c.has_needles.ensures ∙ c.if-not-has_needles.false) refused c.if-refuses_names.true

pub returns-clause-read : goal.returns-clause-read
returns-clause-read c =
    let early : IsEarly (counted c.args.before.now) (view c.args.value.now) = record {
      shape = sym c.is_misshapen.ensures ∙ c.if-is_misshapen.false;
      many = sym c.is_too_many.ensures ∙ c.if-is_too_many.false;
      unknown = sym c.lacks_snapshot.ensures ∙ c.if-lacks_snapshot.false;
      taken = sym c.takes_again.ensures ∙ c.if-takes_again.false;
    } in
    let P : List (List ℕ) → Type 0 = λ names. c.refuses_names.result ≡ (not (list_all is_name names) || is_again (counted c.args.before.now).names names) in
    let refused : P (names_in (reads_in (view c.args.value.now))) = subst P (c.as_slice.ensures.value ∙ c.in_ok-names.ensures) c.refuses_names.ensures in
    record {
      kept = none_broken (counted c.args.before.now) (view c.args.value.now) early c.in-Ok.command c.in-Ok.ensures c.refuses_names.result (sym c.has_needles.ensures ∙ c.if-not-has_needles.false) refused c.if-refuses_names.false;
      is = c.in-Ok.ensures;
      after = c.in_ok-add.ensures.counted;
    }
