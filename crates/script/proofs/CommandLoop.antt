-- The commands of a session, read one after another.
use Rattle.std.proofs.Common.{◌≡◌, ◌+◌, ◌<◌, ◌≤◌, ℕ, List, [], ◌∷◌, ◌++◌, length, drop, false, get_or, Option, Some, None, option_map, option_and_then, refl, sym, ap, ◌∙◌, append_assoc, append-nil}
use Rattle.std.proofs.lemmas.List.{at_drop_more, at_drop_all}
use Rattle.machine.specs.declared.command.Command.{Command}
use Rattle.script.specs.declared.before.Before.{Before}
use Rattle.script.specs.declared.refusal.ScriptRule.{ScriptRule}
use Rattle.script.specs.Reading.{IsFew, IsRead, counted}
use Rattle.script.specs.Rules as rules
use Rattle.script.specs.Rules.{at_start, command_tests, first_broken, place_in_session}
use Rattle.script.specs.ScriptDocument.{command_of, commands_of}
use Rattle.script.proofs.DocumentPlaces.{place_kept, place_broken}
use Rattle.serde_json.specs.Data.{Data, Items, item}
use Rattle.serde_json.specs.View.{view, items_view}
use Rattle.serde_json.specs.declared.value.Value.{Value}

-- the commands that were read before, and those that are still read
abbrev pub with_front : List Command → Option (List Command) → Option (List Command)
with_front front read = option_map (λ cs. front ++ cs) read

-- so many items are read: these commands, after which this much is counted
pub record IsReadSoFar (items : List Value) (i : ℕ) (before : Before) (commands : List Command) : Type 0 where
  pub few : IsFew before
  pub place : place_in_session false 1 (before.commands + 1) (counted before) (items_view (drop i items)) ≡ place_in_session false 1 1 at_start (items_view items)
  pub read : with_front commands (commands_of (items_view (drop i items))) ≡ commands_of (items_view items)

front_more : (front : List Command) (c : Command) (o : Option (List Command)) → with_front (front ++ c ∷ []) o ≡ with_front front (option_map (λ cs. c ∷ cs) o)
front_more front c None = refl
front_more front c (Some cs) = ap Some (append_assoc front (c ∷ []) cs)

front_all : (front : List Command) → with_front front (Some []) ≡ Some front
front_all front = ap Some (append-nil front)

front_none : (o : Option (List Command)) → with_front [] o ≡ o
front_none None = refl
front_none (Some cs) = refl

-- what is left of the items, one item on
rest_is : (items : List Value) (i : ℕ) (v : Value) → i < length items → v ≡ get_or items i v → items_view (drop i items) ≡ item (view v) (items_view (drop (i + 1) items))
rest_is items i v within at = at_drop_more items_view items i v within ∙ ap (λ x. item (view x) (items_view (drop (i + 1) items))) (sym at)

-- one command more
place_step : (old new : Before) (d : Data) (ds : Items) (c : Command) → IsRead old new d c
    → place_in_session false 1 (old.commands + 1) (counted old) (item d ds) ≡ place_in_session false 1 (new.commands + 1) (counted new) ds
place_step old new d ds c is =
    let n : new.commands ≡ old.commands + 1 = ap (λ (b : rules.Before). b.commands) is.after in
    place_kept (old.commands + 1) (counted old) (counted new) d ds is.kept is.after ∙ ap (λ k. place_in_session false 1 (k + 1) (counted new) ds) (sym n)

commands_step : (front : List Command) (d : Data) (ds : Items) (c : Command) → command_of d ≡ Some c → with_front front (commands_of (item d ds)) ≡ with_front (front ++ c ∷ []) (commands_of ds)
commands_step front d ds c is =
    ap (λ o. with_front front (option_and_then (λ x. option_map (λ cs. x ∷ cs) (commands_of ds)) o)) is ∙ sym (front_more front c (commands_of ds))

pub start_read : (items : List Value) (before : Before) (front : List Command) → IsFew before → counted before ≡ at_start → front ≡ [] → IsReadSoFar items 0 before front
start_read items before front few is none =
    let n : before.commands ≡ 0 = ap (λ (b : rules.Before). b.commands) is in
    record {
      few = few;
      place = ap (λ k. place_in_session false 1 (k + 1) (counted before) (items_view items)) n ∙ ap (λ b. place_in_session false 1 1 b (items_view items)) is;
      read = ap (λ cs. with_front cs (commands_of (items_view items))) none ∙ front_none (commands_of (items_view items));
    }

pub one_read : (items : List Value) (i : ℕ) (old new : Before) (front : List Command) (v : Value) (c : Command) → i < length items → v ≡ get_or items i v → IsReadSoFar items i old front → IsRead old new (view v) c → IsFew new
    → IsReadSoFar items (i + 1) new (front ++ c ∷ [])
one_read items i old new front v c within at so_far is few =
    let rest = rest_is items i v within at in
    let ds = items_view (drop (i + 1) items) in
    record {
      few = few;
      place = sym (ap (place_in_session false 1 (old.commands + 1) (counted old)) rest ∙ place_step old new (view v) ds c is) ∙ so_far.place;
      read = sym (ap (λ xs. with_front front (commands_of xs)) rest ∙ commands_step front (view v) ds c is.is) ∙ so_far.read;
    }

-- a command that breaks a rule
pub one_broken : (items : List Value) (i : ℕ) (old : Before) (front : List Command) (v : Value) (why : ScriptRule) → i < length items → v ≡ get_or items i v → IsReadSoFar items i old front
    → first_broken (command_tests false (counted old) (view v)) ≡ Some why → place_in_session false 1 1 at_start (items_view items) ≡ Some (1, old.commands + 1, why)
one_broken items i old front v why within at so_far broken =
    sym so_far.place ∙ ap (place_in_session false 1 (old.commands + 1) (counted old)) (rest_is items i v within at) ∙ place_broken (old.commands + 1) (counted old) (view v) (items_view (drop (i + 1) items)) why broken

-- the last is read
pub all_read : (items : List Value) (i : ℕ) (before : Before) (front : List Command) → length items ≤ i → IsReadSoFar items i before front → commands_of (items_view items) ≡ Some front
all_read items i before front past so_far = sym so_far.read ∙ ap (with_front front) (at_drop_all (λ xs. commands_of (items_view xs)) items i past) ∙ front_all front

pub none_broken : (items : List Value) (i : ℕ) (before : Before) (front : List Command) → length items ≤ i → IsReadSoFar items i before front → place_in_session false 1 1 at_start (items_view items) ≡ None
none_broken items i before front past so_far = sym so_far.place ∙ at_drop_all (λ xs. place_in_session false 1 (before.commands + 1) (counted before) (items_view xs)) items i past
