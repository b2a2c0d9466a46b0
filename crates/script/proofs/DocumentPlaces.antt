-- The first place of a document of what is built that breaks a rule, if any.
use Rattle.std.proofs.Common.{◌≡◌, ◌+◌, ◌&&◌, not, ℕ, List, Bool, true, false, Option, Some, None, option_map, option_and_then, Result, Ok, Err, refl, sym, ap, subst, ◌∙◌}
use Rattle.std.specs.Prelude.{◌==◌, codes, unwrap_or, IfOk}
use Rattle.std.specs.Option.{option_or}
use Rattle.std.proofs.lemmas.Bool.{and_parts, eqb-true, not-false, false≢true}
use Rattle.std.proofs.lemmas.Option.{none-some, option_and_then_some}
use Rattle.machine.specs.declared.command.Command.{Command}
use Rattle.machine.specs.declared.command.Opening.{Opening}
use Rattle.machine.specs.declared.command.Script.{Script}
use Rattle.script.specs.declared.refusal.ScriptRefusal.{ScriptRefusal}
use Rattle.script.specs.declared.refusal.ScriptRefusal.TheVariants.{Refused}
use Rattle.script.specs.declared.refusal.ScriptRule.{ScriptRule}
use Rattle.script.specs.declared.refusal.ScriptRule.TheVariants.{BadShape}
use Rattle.script.specs.Parts.{member_count, item_count, count_items}
use Rattle.script.specs.Reading.{one_session, opening_tests}
use Rattle.script.specs.Rules.{Before, at_start, next, command_tests, first_broken, fault_at, Fault, is_version_one, opening_breaks, wrong_kind, are_sessions, sessions_in, is_document, is_unbuilt_document, is_misshapen_document, place_in_session, built_place, place_by}
use Rattle.script.specs.ScriptDocument.{commands_of, session_of, sessions_of, opening_of, reading, script_of, session_in, head_of, IsRefusalAt}
use Rattle.script.specs.TranscriptDocument.{whole}
use Rattle.script.proofs.LimitLemmas.{behind_map}
use Rattle.script.proofs.RuleLemmas.{or_false}
use Rattle.script.proofs.ScriptExact.{test_some, version_exact, one_item, array_exact}
use Rattle.serde_json.specs.Data.{Data, null, boolean, number, string, array, object, Items, no_items, item}
use Rattle.serde_json.specs.Find.{get, at, as_array}

-- ---- the commands one after another

pub place_kept : (n : ℕ) (b after : Before) (d : Data) (ds : Items) → first_broken (command_tests false b d) ≡ None → after ≡ next b d → place_in_session false 1 n b (item d ds) ≡ place_in_session false 1 (n + 1) after ds
place_kept n b after d ds kept is = rw (kept, is) refl

pub place_broken : (n : ℕ) (b : Before) (d : Data) (ds : Items) (why : ScriptRule) → first_broken (command_tests false b d) ≡ Some why → place_in_session false 1 n b (item d ds) ≡ Some (1, n, why)
place_broken n b d ds why broken = rw broken refl

-- ---- a document of the right shape

pub record IsHead (d o : Data) (ds : Items) : Type 0 where
  pub members : (member_count d == 3) ≡ true
  pub version : get (codes "version") d ≡ Some (whole 1)
  pub opens : get (codes "open") d ≡ Some o
  pub sessions : get (codes "sessions") d ≡ Some (array (item (array ds) no_items))

-- the sessions
session_is : (o : Option Data) (ds : Items) → option_and_then session_in o ≡ Some ds → o ≡ Some (array (item (array ds) no_items))
session_is None ds e = absurd (none-some ds e)
session_is (Some d) ds e =
    let t = test_some (item_count d == 1) (option_and_then as_array (at 0 d)) ds e in
    let one = one_item d (eqb-true (item_count d) 1 t.0) in
    let inner : as_array one.0 ≡ Some ds = subst (λ v. option_and_then as_array (at 0 v) ≡ Some ds) one.1 t.1 in
    ap Some (one.1 ∙ ap (λ v. array (item v no_items)) (array_exact one.0 ds inner))

pub head_parts : (d o : Data) (ds : Items) → head_of d ≡ Some (o, ds) → IsHead d o ds
unfolding head_of
head_parts d o ds e =
    let t = test_some ((member_count d == 3) && is_version_one d) _ (o, ds) e in
    let b = and_parts (member_count d == 3) (is_version_one d) t.0 in
    option_and_then_some (λ s. option_map (λ is. (s, is)) (option_and_then session_in (get (codes "sessions") d))) (get (codes "open") d) (o, ds) t.1 (λ s s_is rest.
    behind_map (λ is. (s, is)) (option_and_then session_in (get (codes "sessions") d)) (o, ds) rest (λ is is_is pair.
    let y = session_is (get (codes "sessions") d) ds (is_is ∙ ap (λ p. Some p.1) pair) in
    record { members = b.0; version = version_exact (get (codes "version") d) b.1; opens = s_is ∙ ap (λ p. Some p.0) pair; sessions = y }))

unbroken : (b : Bool) → not (not b && true) ≡ b
unbroken true = refl
unbroken false = refl

pub place_of_head : (d o : Data) (ds : Items) → IsHead d o ds → built_place d ≡ option_or (fault_at 0 0 (opening_tests o)) (option_or (place_in_session false 1 1 at_start ds) None)
unfolding place_by
place_of_head d o ds h = rw (h.members, h.version, h.opens, h.sessions, unbroken (opening_breaks wrong_kind true (Some o))) refl

pub reading_of_head : (d o : Data) (ds : Items) (opens : Opening) (cs : List Command) → IsHead d o ds → opening_of o ≡ Some opens → commands_of ds ≡ Some cs → reading d ≡ Some (one_session opens cs)
unfolding reading sessions_of session_of
reading_of_head d o ds opens cs h is e = rw (h.members, h.version, h.opens, is, h.sessions, e) refl

or_none : (o : Option Fault) → option_or o None ≡ o
or_none None = refl
or_none (Some x) = refl

-- what head and commands tell of the whole
pub broken_opening : (d o : Data) (ds : Items) (why : ScriptRule) → head_of d ≡ Some (o, ds) → first_broken (opening_tests o) ≡ Some why → built_place d ≡ Some (0, 0, why)
broken_opening d o ds why e is = place_of_head d o ds (head_parts d o ds e) ∙ rw is refl

pub place_of_commands : (d o : Data) (ds : Items) → head_of d ≡ Some (o, ds) → first_broken (opening_tests o) ≡ None → built_place d ≡ place_in_session false 1 1 at_start ds
place_of_commands d o ds e kept = place_of_head d o ds (head_parts d o ds e) ∙ rw kept (or_none (place_in_session false 1 1 at_start ds))

pub script_of_parts : (d o : Data) (ds : Items) (opens : Opening) (cs : List Command) → head_of d ≡ Some (o, ds) → first_broken (opening_tests o) ≡ None → opening_of o ≡ Some opens → place_in_session false 1 1 at_start ds ≡ None
    → commands_of ds ≡ Some cs → script_of d ≡ Some (one_session opens cs)
unfolding script_of
script_of_parts d o ds opens cs e kept is none commands = rw (place_of_commands d o ds e kept, none) (reading_of_head d o ds opens cs (head_parts d o ds e) is commands)

-- ---- a document of another shape

open_there : (o : Option Data) → opening_breaks wrong_kind true o ≡ false → (v : Data) × (o ≡ Some v)
open_there None e = absurd (false≢true (sym e))
open_there (Some v) e = (v, refl)

list_there : (d : Data) → are_sessions (item d no_items) ≡ true → (ds : Items) × (as_array d ≡ Some ds)
list_there null e = absurd (false≢true e)
list_there (boolean b) e = absurd (false≢true e)
list_there (number n) e = absurd (false≢true e)
list_there (string s) e = absurd (false≢true e)
list_there (array ds) e = (ds, refl)
list_there (object ms) e = absurd (false≢true e)

sessions_there : (o : Option Data) → (count_items (unwrap_or (option_and_then as_array o) no_items) == 1) ≡ true → are_sessions (unwrap_or (option_and_then as_array o) no_items) ≡ true → (ds : Items) × (option_and_then session_in o ≡ Some ds)
sessions_there None one e = absurd (false≢true one)
sessions_there (Some null) one e = absurd (false≢true one)
sessions_there (Some (boolean b)) one e = absurd (false≢true one)
sessions_there (Some (number n)) one e = absurd (false≢true one)
sessions_there (Some (string s)) one e = absurd (false≢true one)
sessions_there (Some (object ms)) one e = absurd (false≢true one)
sessions_there (Some (array no_items)) one e = absurd (false≢true one)
sessions_there (Some (array (item d no_items))) one e = list_there d e
sessions_there (Some (array (item d (item f ds)))) one e = absurd (cc (eqb-true _ 1 one))

and_true : (b : Bool) → (b && true) ≡ false → b ≡ false
and_true true e = e
and_true false e = refl

not_true : (b : Bool) → not b ≡ true → b ≡ false
not_true true e = absurd (false≢true e)
not_true false e = refl

head_made : (d o : Data) (ds : Items) → (member_count d == 3) ≡ true → is_version_one d ≡ true → get (codes "open") d ≡ Some o → option_and_then session_in (get (codes "sessions") d) ≡ Some ds → head_of d ≡ Some (o, ds)
unfolding head_of
head_made d o ds members version opens sessions = rw (members, version, opens, sessions) refl

head_there : (d : Data) → is_misshapen_document false d ≡ false → (h : Data × Items) × (head_of d ≡ Some h)
head_there d h =
    let parts = or_false (is_unbuilt_document d && true) (not (is_document d)) h in
    let built = and_true (is_unbuilt_document d) parts.0 in
    let members = and_parts (member_count d == 3) _ (not-false (is_document d) parts.1) in
    let version = and_parts (is_version_one d) _ members.1 in
    let last = and_parts (not (opening_breaks wrong_kind true (get (codes "open") d))) (are_sessions (sessions_in d)) version.1 in
    let opens = open_there (get (codes "open") d) (not_true _ last.0) in
    let ds = sessions_there (get (codes "sessions") d) (not-false _ built) last.1 in
    ((opens.0, ds.0), head_made d opens.0 ds.0 members.0 version.0 opens.1 ds.1)

by_shape : (d : Data) (b : Bool) → is_misshapen_document false d ≡ b → head_of d ≡ None → built_place d ≡ Some (0, 0, BadShape)
unfolding place_by
by_shape d true is e = rw is refl
by_shape d false is e = let found = head_there d is in absurd (none-some found.0 (sym e ∙ found.1))

pub no_head : (d : Data) → head_of d ≡ None → built_place d ≡ Some (0, 0, BadShape)
no_head d e = by_shape d (is_misshapen_document false d) refl e

-- ---- what the reader answers

pub shape_refused : (d : Data) (r : ScriptRefusal) → head_of d ≡ None → r ≡ Refused 0 0 BadShape → IsRefusalAt (built_place d) r
shape_refused d r none is = rw (is, no_head d none) refl

pub opening_refused : (d o : Data) (ds : Items) (why : ScriptRule) (r : ScriptRefusal) → head_of d ≡ Some (o, ds) → first_broken (opening_tests o) ≡ Some why → r ≡ Refused 0 0 why → IsRefusalAt (built_place d) r
opening_refused d o ds why r head broken is = rw (is, broken_opening d o ds why head broken) refl

pub commands_refused : (d o : Data) (ds : Items) (r : ScriptRefusal) → head_of d ≡ Some (o, ds) → first_broken (opening_tests o) ≡ None → IsRefusalAt (place_in_session false 1 1 at_start ds) r → IsRefusalAt (built_place d) r
commands_refused d o ds r head kept h = subst (λ p. IsRefusalAt p r) (sym (place_of_commands d o ds head kept)) h

pub script_made : (d o : Data) (ds : Items) (opens : Opening) (cs : List Command) (r : Result Script ScriptRefusal) → head_of d ≡ Some (o, ds) → first_broken (opening_tests o) ≡ None → opening_of o ≡ Some opens
    → place_in_session false 1 1 at_start ds ≡ None → commands_of ds ≡ Some cs → IfOk r (λ s. s ≡ one_session opens cs) → IfOk r (λ s. script_of d ≡ Some s)
script_made d o ds opens cs (Ok s) head kept opened none commands is = script_of_parts d o ds opens cs head kept opened none commands ∙ ap Some (sym is)
script_made d o ds opens cs (Err refusal) head kept opened none commands is = tt
