-- The value of a script of what is built has no place that breaks a rule exactly where no place breaks one by the rules alone; and then
-- the script is within its limits.
use Rattle.std.proofs.Common.{◌≡◌, ◌+◌, ◌≤◌, ◌&&◌, ◌||◌, not, ℕ, suc, List, [], ◌∷◌, ◌++◌, length, map, drop, count_by, Bool, true, false, cond, Option, Some, None, option_map, is_some, refl, sym, ap, subst, ◌∙◌, arith, length-append, append_assoc, append-nil}
use Rattle.std.specs.Prelude.{nat_lt, ◌==◌, codes, sum_by, unwrap_or, IfSome}
use Rattle.std.specs.List.{AllByRecursion, list_all, list_any}
use Rattle.std.specs.Option.{option_or}
use Rattle.std.proofs.lemmas.Bool.Decides.{nat_tests}
use Rattle.std.proofs.lemmas.List.Sums.{sum_by-cons}
use Rattle.std.proofs.lemmas.Option.{none-some}
use Rattle.std.proofs.lemmas.Bool.{ltb-false, le-leb, eqb-true, and_parts, and_from, not-false, false≢true, ne_eqb}
use Rattle.points.specs.declared.limits.TheConstants.{MAX_UNITS, MAX_HANDS}
use Rattle.points.specs.declared.range.Range.{Range}
use Rattle.points.specs.Text.{utf16_of}
use Rattle.machine.specs.Answers.{opening_text}
use Rattle.machine.specs.Lawful.{reads_in}
use Rattle.machine.specs.Plain as plain
use Rattle.machine.specs.Plain.{are_live}
use Rattle.machine.specs.declared.command.Command.{Command}
use Rattle.machine.specs.declared.command.Command.TheVariants as command
use Rattle.machine.specs.declared.command.Opening.{Opening}
use Rattle.machine.specs.declared.command.Opening.TheVariants as opening
use Rattle.machine.specs.declared.command.Script.{Script}
use Rattle.machine.specs.declared.reads.Read.{Read}
use Rattle.machine.specs.declared.reads.Read.TheVariants as read
use Rattle.script.specs.declared.limits.TheConstants.{MAX_SESSIONS, MAX_COMMANDS, MAX_READINGS, MAX_SAVES, MAX_FINDS, MAX_SHOWN, MAX_HITS, MAX_WATCHES, MAX_ID}
use Rattle.script.specs.declared.refusal.ScriptRule.{ScriptRule}
use Rattle.script.specs.declared.refusal.ScriptRule.TheVariants.{BadShape, TooMany, UnknownSnapshot, SnapshotTaken, BadNumber, BadEncoding, EmptyNeedle, BadName}
use Rattle.script.specs.Limits.{has_built_word, IsRangeWithin, IsReadableRead, IsReadable, readings_of, is_find, is_watch, names_among, saved_names, is_in_turn, are_in_turn, has_needle, has_needles, IsWithinLimits}
use Rattle.script.specs.Parts.{member_count, items_in, count_items, string_in, within, whole_of, range_of}
use Rattle.script.specs.ScriptDocument.{reading, script_of}
use Rattle.script.specs.Rules as rules
use Rattle.script.specs.Rules.{Before, at_start, next, command_tests, command_breaks, read_breaks, any_item, wrong_kind, wrong_number, wrong_encoding, empty_needle, wrong_name, names_in, is_among, is_again, is_too_many, readings_in, names_one_of, live_after, one_if, needs_live, is_live, is_do, document_tests, Fault, first_broken, fault_at, is_document, is_version_one, opening_breaks, are_sessions, sessions_in, opened_text, place_in_session, place_in_sessions, after_commands, place_by, built_place, value_place, is_unbuilt, is_misshapen, is_misshapen_document, is_unbuilt_document}
use Rattle.script.specs.ScriptValue.{range_value, read_value, command_value, opening_value, script_value, is_built, BreaksNoRule}
use Rattle.script.specs.TranscriptDocument.{whole}
use Rattle.script.proofs.KeyOrder.{IsInKeyOrder}
use Rattle.script.proofs.Readable.{IsReadableScript, readable_built, each_built}
use Rattle.script.proofs.ScriptAgain.{reading_again}
use Rattle.script.proofs.ScriptExact.{range_exact, whole_exact, reading_exact}
use Rattle.serde_json.specs.Data.{Data, Items, no_items, item}
use Rattle.serde_json.specs.Find.{get}
use Rattle.serde_json.specs.View.{items_of}

pub or_false : (x y : Bool) → (x || y) ≡ false → (x ≡ false) × (y ≡ false)
or_false true y e = absurd (false≢true (sym e))
or_false false y e = (refl, e)

pub there : {A : Type 0} (o : Option A) → not (is_some o) ≡ false → (x : A) × (o ≡ Some x)
there None e = absurd (false≢true (sym e))
there (Some x) e = (x, refl)

-- ---- tests of which none is broken

first_passes : (a : Bool) (why : ScriptRule) (ts : List (Bool × ScriptRule)) → first_broken ((a, why) ∷ ts) ≡ None → (a ≡ false) × (first_broken ts ≡ None)
first_passes true why ts h = absurd cc
first_passes false why ts h = (refl, h)

first_from : (a : Bool) (why : ScriptRule) (ts : List (Bool × ScriptRule)) → a ≡ false → first_broken ts ≡ None → first_broken ((a, why) ∷ ts) ≡ None
first_from a why ts is h = rw is h

none_broken : (session n : ℕ) (ts : List (Bool × ScriptRule)) (o : Option ScriptRule) → o ≡ first_broken ts → option_map {U = Fault} (λ why. (session, n, why)) o ≡ None → first_broken ts ≡ None
none_broken session n ts None is e = sym is
none_broken session n ts (Some why) is e = absurd cc

no_fault : (session n : ℕ) (ts : List (Bool × ScriptRule)) → fault_at session n ts ≡ None → first_broken ts ≡ None
no_fault session n ts e = none_broken session n ts (first_broken ts) refl e

neither : (o p : Option Fault) → option_or o p ≡ None → (o ≡ None) × (p ≡ None)
neither None p e = (refl, e)
neither (Some x) p e = absurd cc

-- ---- with what isn't built and without it

-- another first test, which isn't broken where the first one isn't
other_first : (a b : Bool) (why : ScriptRule) (ts : List (Bool × ScriptRule)) → (a ≡ false → b ≡ false) → first_broken ((a, why) ∷ ts) ≡ None → first_broken ((b, why) ∷ ts) ≡ None
other_first a b why ts gives h = let parts = first_passes a why ts h in first_from b why ts (gives parts.0) parts.1

all_shape : (u k : Bool) → ((u && true) || k) ≡ false → ((u && false) || k) ≡ false
all_shape true k h = absurd (false≢true (sym h))
all_shape false k h = h

built_shape : (u k : Bool) → u ≡ false → ((u && false) || k) ≡ false → ((u && true) || k) ≡ false
built_shape true k built h = absurd (false≢true (sym built))
built_shape false k built h = h

pub more_passes : (b : Before) (d : Data) → first_broken (command_tests false b d) ≡ None → first_broken (command_tests true b d) ≡ None
more_passes b d h = other_first (is_misshapen false d) (is_misshapen true d) BadShape (drop 1 (command_tests true b d)) (all_shape (is_unbuilt d) (command_breaks wrong_kind true d)) h

both_none : (o p : Option Fault) → o ≡ None → p ≡ None → option_or o p ≡ None
both_none o p h k = rw (h, k) refl

fault_none : (session n : ℕ) (ts : List (Bool × ScriptRule)) → first_broken ts ≡ None → fault_at session n ts ≡ None
fault_none session n ts h = rw h refl

session_more : (session n : ℕ) (b : Before) (ds : Items) → place_in_session false session n b ds ≡ None → place_in_session true session n b ds ≡ None
session_more session n b no_items h = refl
session_more session n b (item d ds) h =
    let parts = neither (fault_at session n (command_tests false b d)) (place_in_session false session (n + 1) (next b d) ds) h in
    let own = fault_none session n (command_tests true b d) (more_passes b d (no_fault session n (command_tests false b d) parts.0)) in
    both_none _ _ own (session_more session (n + 1) (next b d) ds parts.1)

sessions_more : (session : ℕ) (b : Before) (ds : Items) → place_in_sessions false session b ds ≡ None → place_in_sessions true session b ds ≡ None
sessions_more session b no_items h = refl
sessions_more session b (item d ds) h =
    let parts = neither (place_in_session false session 1 b (items_in d)) (place_in_sessions false (session + 1) (after_commands b (items_in d)) ds) h in
    both_none _ _ (session_more session 1 b (items_in d) parts.0) (sessions_more (session + 1) (after_commands b (items_in d)) ds parts.1)

document_more : (d : Data) → first_broken (document_tests false d) ≡ None → first_broken (document_tests true d) ≡ None
document_more d h = other_first (is_misshapen_document false d) (is_misshapen_document true d) BadShape (drop 1 (document_tests true d)) (all_shape (is_unbuilt_document d) (not (is_document d))) h

place_more : (d : Data) → built_place d ≡ None → value_place d ≡ None
unfolding place_by
place_more d h =
    let parts = neither (fault_at 0 0 (document_tests false d)) (place_in_sessions false 1 at_start (sessions_in d)) h in
    both_none _ _ (fault_none 0 0 (document_tests true d) (document_more d (no_fault 0 0 (document_tests false d) parts.0))) (sessions_more 1 at_start (sessions_in d) parts.1)

-- ---- a command of what is built

command_is_built : (c : Command) → has_built_word c ≡ true → is_unbuilt (command_value c) ≡ false
command_is_built (command.Edit range text) h = refl
command_is_built (command.Text range limit) h = refl
command_is_built command.Undo h = refl
command_is_built command.Redo h = refl
command_is_built command.Squash h = refl
command_is_built (command.Unmark id) h = refl
command_is_built (command.Range id) h = refl
command_is_built (command.Exclusive id value) h = refl
command_is_built (command.Compare x y) h = refl
command_is_built (command.Mark id range exclusive) h = refl
command_is_built (command.Marks how range) h = refl
command_is_built (command.Watch id) h = refl
command_is_built (command.Unwatch id) h = refl
command_is_built (command.Take k) h = refl
command_is_built (command.Read k reads) h = refl
command_is_built (command.Send k reads) h = refl
command_is_built (command.Release k) h = refl
command_is_built c h = absurd (false≢true h)

session_built : (session n : ℕ) (b : Before) (cs : List Command) → list_all has_built_word cs ≡ true → place_in_session true session n b (items_of (map command_value cs)) ≡ None
    → place_in_session false session n b (items_of (map command_value cs)) ≡ None
session_built session n b [] built h = refl
session_built session n b (c ∷ cs) built h =
    let d = command_value c in
    let words = and_parts (has_built_word c) (list_all has_built_word cs) built in
    let parts = neither (fault_at session n (command_tests true b d)) (place_in_session true session (n + 1) (next b d) (items_of (map command_value cs))) h in
    let shape = built_shape (is_unbuilt d) (command_breaks wrong_kind true d) (command_is_built c words.0) in
    let own = other_first (is_misshapen true d) (is_misshapen false d) BadShape (drop 1 (command_tests true b d)) shape (no_fault session n (command_tests true b d) parts.0) in
    both_none _ _ (fault_none session n (command_tests false b d) own) (session_built session (n + 1) (next b d) cs words.1 parts.1)

-- ---- the tests that a command passes

record ArePassed (b : Before) (d : Data) : Type 0 where
  many : is_too_many b d ≡ false
  unknown : (needs_live d && not (is_live b d)) ≡ false
  taken : (is_do (codes "take") d && is_live b d) ≡ false
  number : command_breaks wrong_number false d ≡ false
  needle : command_breaks empty_needle false d ≡ false
  name : is_again b.names (names_in (rules.reads_in d)) ≡ false

tests_passed : (b : Before) (d : Data) → first_broken (command_tests false b d) ≡ None → ArePassed b d
tests_passed b d h =
    let ts = command_tests false b d in
    let shape = first_passes (is_misshapen false d) BadShape (drop 1 ts) h in
    let many = first_passes (is_too_many b d) TooMany (drop 2 ts) shape.1 in
    let unknown = first_passes (needs_live d && not (is_live b d)) UnknownSnapshot (drop 3 ts) many.1 in
    let taken = first_passes (is_do (codes "take") d && is_live b d) SnapshotTaken (drop 4 ts) unknown.1 in
    let number = first_passes (command_breaks wrong_number false d) BadNumber (drop 5 ts) taken.1 in
    let encoding = first_passes (command_breaks wrong_encoding false d) BadEncoding (drop 6 ts) number.1 in
    let needle = first_passes (command_breaks empty_needle false d) EmptyNeedle (drop 7 ts) encoding.1 in
    let name = first_passes (command_breaks wrong_name false d || is_again b.names (names_in (rules.reads_in d))) BadName [] needle.1 in
    record { many = many.0; unknown = unknown.0; taken = taken.0; number = number.0; needle = needle.0; name = (or_false (command_breaks wrong_name false d) (is_again b.names (names_in (rules.reads_in d))) name.0).1 }

range_back : (r : Range) → not (is_some (range_of (range_value r))) ≡ false → IsRangeWithin r
range_back r e =
    let found = there (range_of (range_value r)) e in
    let exact = range_exact (range_value r) found.0 found.1 in
    let row : r.start.row ≡ found.0.start.row = cc (exact.0) in
    let column : r.start.column ≡ found.0.start.column = cc (exact.0) in
    let end_row : r.end.row ≡ found.0.end.row = cc (exact.0) in
    let end_column : r.end.column ≡ found.0.end.column = cc (exact.0) in
    record {
      start = record { row = omega (arith, exact.1.start.row); column = omega (arith, exact.1.start.column) };
      end = record { row = omega (arith, exact.1.end.row); column = omega (arith, exact.1.end.column) };
    }

whole_back : (limit n : ℕ) → not (is_some (whole_of limit (whole n))) ≡ false → n ≤ limit
whole_back limit n e =
    let found = there (whole_of limit (whole n)) e in
    let exact = whole_exact limit found.0 (whole n) found.1 in
    let same : n ≡ found.0 = cc (exact.0) in
    omega (arith, exact.1)

-- a number or a range in front of others
whole_first : (limit n : ℕ) (rest : Bool) → (not (is_some (whole_of limit (whole n))) || rest) ≡ false → (n ≤ limit) × (rest ≡ false)
whole_first limit n rest e = let parts = or_false (not (is_some (whole_of limit (whole n)))) rest e in (whole_back limit n parts.0, parts.1)

range_first : (r : Range) (rest : Bool) → (not (is_some (range_of (range_value r))) || rest) ≡ false → IsRangeWithin r × (rest ≡ false)
range_first r rest e = let parts = or_false (not (is_some (range_of (range_value r)))) rest e in (range_back r parts.0, parts.1)

read_readable : (r : Read) → read_breaks wrong_number false (read_value r) ≡ false → IsReadableRead r
read_readable read.Size e = tt
read_readable (read.Text range limit) e = let first = range_first range _ e in (first.0, (whole_first MAX_SHOWN limit false first.1).0)
read_readable (read.Find needle limit) e = (whole_first MAX_HITS limit false e).0
read_readable (read.Pattern pattern limit) e = (whole_first MAX_HITS limit false e).0
read_readable (read.Save name encoding) e = tt

reads_readable : (rs : List Read) → any_item (read_breaks wrong_number false) (items_of (map read_value rs)) ≡ false → AllByRecursion IsReadableRead rs
reads_readable [] e = tt
reads_readable (r ∷ rs) e =
    let parts = or_false (read_breaks wrong_number false (read_value r)) (any_item (read_breaks wrong_number false) (items_of (map read_value rs))) e in
    (read_readable r parts.0, reads_readable rs parts.1)

readable : (c : Command) → has_built_word c ≡ true → command_breaks wrong_number false (command_value c) ≡ false → IsReadable c
readable (command.Edit range text) built e = (range_first range false e).0
readable (command.Text range limit) built e = let first = range_first range _ e in (first.0, (whole_first MAX_SHOWN limit false first.1).0)
readable command.Undo built e = tt
readable command.Redo built e = tt
readable command.Squash built e = tt
readable (command.Unmark id) built e = (whole_first MAX_ID id false e).0
readable (command.Range id) built e = (whole_first MAX_ID id false e).0
readable (command.Exclusive id value) built e = (whole_first MAX_ID id false e).0
readable (command.Compare x y) built e = let first = whole_first MAX_ID x _ e in (first.0, (whole_first MAX_ID y false first.1).0)
readable (command.Mark id range exclusive) built e = let first = whole_first MAX_ID id _ e in (first.0, (range_first range false first.1).0)
readable (command.Marks how range) built e = (range_first range false e).0
readable (command.Watch id) built e = (whole_first MAX_ID id false e).0
readable (command.Unwatch id) built e = (whole_first MAX_ID id false e).0
readable (command.Take k) built e = (whole_first MAX_ID k false e).0
readable (command.Read k reads) built e =
    let first = whole_first MAX_ID k _ e in
    (first.0, reads_readable reads (or_false (any_item (read_breaks wrong_number false) (items_of (map read_value reads))) false first.1).0)
readable (command.Send k reads) built e =
    let first = whole_first MAX_ID k _ e in
    (first.0, reads_readable reads (or_false (any_item (read_breaks wrong_number false) (items_of (map read_value reads))) false first.1).0)
readable (command.Release k) built e = (whole_first MAX_ID k false e).0
readable c built e = absurd (false≢true built)

needle_there : (r : Read) → read_breaks empty_needle false (read_value r) ≡ false → has_needle r ≡ true
needle_there (read.Find [] limit) e = absurd (false≢true (sym e))
needle_there (read.Find (b ∷ bytes) limit) e = let some_units : (length (b ∷ bytes) == 0) ≡ false = ne_eqb (length (b ∷ bytes)) 0 (λ h. omega (arith, h)) in rw some_units refl
needle_there r e = refl

needles_there : (rs : List Read) → any_item (read_breaks empty_needle false) (items_of (map read_value rs)) ≡ false → list_all has_needle rs ≡ true
needles_there [] e = refl
needles_there (r ∷ rs) e =
    let parts = or_false (read_breaks empty_needle false (read_value r)) (any_item (read_breaks empty_needle false) (items_of (map read_value rs))) e in
    and_from (has_needle r) (list_all has_needle rs) (needle_there r parts.0) (needles_there rs parts.1)

needles : (c : Command) → command_breaks empty_needle false (command_value c) ≡ false → has_needles c ≡ true
needles (command.Read k reads) e = needles_there reads (or_false (any_item (read_breaks empty_needle false) (items_of (map read_value reads))) false e).0
needles (command.Send k reads) e = needles_there reads (or_false (any_item (read_breaks empty_needle false) (items_of (map read_value reads))) false e).0
needles c e = refl

-- ---- what a command counts

-- what the rules count of the value of a command is what the command has
record IsCounted (b : Before) (c : Command) : Type 0 where
  reading : readings_in (command_value c) ≡ readings_of c
  finds : is_do (codes "marks") (command_value c) ≡ is_find c
  watches : is_do (codes "watch") (command_value c) ≡ is_watch c
  names : names_in (rules.reads_in (command_value c)) ≡ names_among (reads_in c)
  live : live_after b.live (command_value c) ≡ plain.live_after c b.live
  turn : (needs_live (command_value c) && not (is_live b (command_value c))) ≡ false → (is_do (codes "take") (command_value c) && is_live b (command_value c)) ≡ false
      → (is_do (codes "take") (command_value c) && nat_lt MAX_HANDS (b.peaks + length b.live + 1)) ≡ false → is_in_turn b.live c ≡ true

hand_left : (p n : ℕ) → nat_lt MAX_HANDS (p + n + 1) ≡ false → nat_lt n MAX_HANDS ≡ true
hand_left p n h = grind (arith, nat_tests)

items_counted : (rs : List Read) → count_items (items_of (map read_value rs)) ≡ length rs
items_counted [] = refl
items_counted (r ∷ rs) = ap suc (items_counted rs)

names_are : (rs : List Read) → names_in (items_of (map read_value rs)) ≡ names_among rs
names_are [] = refl
names_are (read.Size ∷ rs) = names_are rs
names_are (read.Text range limit ∷ rs) = names_are rs
names_are (read.Find needle limit ∷ rs) = names_are rs
names_are (read.Pattern pattern limit ∷ rs) = names_are rs
names_are (read.Save name encoding ∷ rs) = ap (λ names. name ∷ names) (names_are rs)

named : (b : Before) (k : ℕ) → k ≤ MAX_ID → names_one_of b.live (within MAX_ID k) ≡ list_any (λ m. m == k) b.live
named b k h = rw (le-leb k MAX_ID h) refl

took : (b : Before) (k : ℕ) → k ≤ MAX_ID → names_one_of b.live (within MAX_ID k) ≡ false → nat_lt MAX_HANDS (b.peaks + length b.live + 1) ≡ false → is_in_turn b.live (command.Take k) ≡ true
took b k h fresh hands = rw (sym (named b k h) ∙ fresh, hand_left b.peaks (length b.live) hands) refl

counted : (b : Before) (c : Command) → IsReadable c → IsCounted b c
counted b (command.Edit range text) h = record { reading = refl; finds = refl; watches = refl; names = refl; live = refl; turn = λ unknown taken hands. refl }
counted b (command.Text range limit) h = record { reading = refl; finds = refl; watches = refl; names = refl; live = refl; turn = λ unknown taken hands. refl }
counted b command.Undo h = record { reading = refl; finds = refl; watches = refl; names = refl; live = refl; turn = λ unknown taken hands. refl }
counted b command.Redo h = record { reading = refl; finds = refl; watches = refl; names = refl; live = refl; turn = λ unknown taken hands. refl }
counted b command.Squash h = record { reading = refl; finds = refl; watches = refl; names = refl; live = refl; turn = λ unknown taken hands. refl }
counted b (command.Unmark id) h = record { reading = refl; finds = refl; watches = refl; names = refl; live = refl; turn = λ unknown taken hands. refl }
counted b (command.Range id) h = record { reading = refl; finds = refl; watches = refl; names = refl; live = refl; turn = λ unknown taken hands. refl }
counted b (command.Exclusive id value) h = record { reading = refl; finds = refl; watches = refl; names = refl; live = refl; turn = λ unknown taken hands. refl }
counted b (command.Compare x y) h = record { reading = refl; finds = refl; watches = refl; names = refl; live = refl; turn = λ unknown taken hands. refl }
counted b (command.Mark id range exclusive) h = record { reading = refl; finds = refl; watches = refl; names = refl; live = refl; turn = λ unknown taken hands. refl }
counted b (command.Marks how range) h = record { reading = refl; finds = refl; watches = refl; names = refl; live = refl; turn = λ unknown taken hands. refl }
counted b (command.Watch id) h = record { reading = refl; finds = refl; watches = refl; names = refl; live = refl; turn = λ unknown taken hands. refl }
counted b (command.Unwatch id) h = record { reading = refl; finds = refl; watches = refl; names = refl; live = refl; turn = λ unknown taken hands. refl }
counted b (command.Take k) h = record { reading = refl; finds = refl; watches = refl; names = refl; live = rw (le-leb k MAX_ID h) refl; turn = λ unknown taken hands. took b k h taken hands }
counted b (command.Read k reads) h =
    record { reading = omega (arith, items_counted reads); finds = refl; watches = refl; names = names_are reads; live = refl; turn = λ unknown taken hands. sym (named b k h.0) ∙ not-false (names_one_of b.live (within MAX_ID k)) unknown }
counted b (command.Send k reads) h =
    record { reading = omega (arith, items_counted reads); finds = refl; watches = refl; names = names_are reads; live = rw (le-leb k MAX_ID h.0) refl; turn = λ unknown taken hands. sym (named b k h.0) ∙ not-false (names_one_of b.live (within MAX_ID k)) unknown }
counted b (command.Release k) h =
    record { reading = refl; finds = refl; watches = refl; names = refl; live = rw (le-leb k MAX_ID h) refl; turn = λ unknown taken hands. sym (named b k h) ∙ not-false (names_one_of b.live (within MAX_ID k)) unknown }
counted b c h = absurd h

six_false : (a b c d e f : Bool) → (a || b || c || d || e || f) ≡ false → (a ≡ false) × (b ≡ false) × (c ≡ false) × (d ≡ false) × (e ≡ false) × (f ≡ false)
six_false true b c d e f h = absurd (false≢true (sym h))
six_false false true c d e f h = absurd (false≢true (sym h))
six_false false false true d e f h = absurd (false≢true (sym h))
six_false false false false true e f h = absurd (false≢true (sym h))
six_false false false false false true f h = absurd (false≢true (sym h))
six_false false false false false false true h = absurd (false≢true (sym h))
six_false false false false false false false h = (refl, refl, refl, refl, refl, refl)

-- few enough of everything
record IsRoomy (b : Before) : Type 0 where
  commands : b.commands ≤ MAX_COMMANDS
  reading : b.reading ≤ MAX_READINGS
  saves : length b.names ≤ MAX_SAVES
  finds : b.marks ≤ MAX_FINDS
  watches : b.watches ≤ MAX_WATCHES

room_after : (b : Before) (d : Data) → is_too_many b d ≡ false → IsRoomy (next b d) × ((is_do (codes "take") d && nat_lt MAX_HANDS (b.peaks + length b.live + 1)) ≡ false)
room_after b d h =
    let parts = six_false (nat_lt MAX_COMMANDS (next b d).commands) (nat_lt MAX_READINGS (next b d).reading) (nat_lt MAX_SAVES (length (next b d).names)) (nat_lt MAX_FINDS (next b d).marks) (nat_lt MAX_WATCHES (next b d).watches)
    (is_do (codes "take") d && nat_lt MAX_HANDS (b.peaks + length b.live + 1)) h in
    (record { commands = ltb-false _ _ parts.0; reading = ltb-false _ _ parts.1; saves = ltb-false _ _ parts.2; finds = ltb-false _ _ parts.3; watches = ltb-false _ _ parts.4 }, parts.5)

-- ---- the commands of a session

-- names in two parts
again-append : (there xs ys : List (List ℕ)) → is_again there xs ≡ false → is_again (there ++ xs) ys ≡ false → is_again there (xs ++ ys) ≡ false
again-append there [] ys one more = subst (λ names. is_again names ys ≡ false) (append-nil there) more
again-append there (x ∷ xs) ys one more =
    let parts = or_false (is_among there x) (is_again (there ++ x ∷ []) xs) one in
    let rest = again-append (there ++ x ∷ []) xs ys parts.1 (subst (λ names. is_again names ys ≡ false) (sym (append_assoc there (x ∷ []) xs)) more) in
    rw (parts.0, rest) refl

record IsSessionWithin (b : Before) (cs : List Command) : Type 0 where
  readable : AllByRecursion IsReadable cs
  commands : b.commands + length cs ≤ MAX_COMMANDS
  readings : b.reading + sum_by readings_of cs ≤ MAX_READINGS
  saves : length b.names + length (saved_names cs) ≤ MAX_SAVES
  apart : is_again b.names (saved_names cs) ≡ false
  finds : b.marks + count_by is_find cs ≤ MAX_FINDS
  watches : b.watches + count_by is_watch cs ≤ MAX_WATCHES
  needles : AllByRecursion (λ c. has_needles c ≡ true) cs
  turns : are_in_turn b.live cs ≡ true

session_within : (session n : ℕ) (b : Before) (cs : List Command) → list_all has_built_word cs ≡ true → IsRoomy b → place_in_session false session n b (items_of (map command_value cs)) ≡ None → IsSessionWithin b cs
session_within session n b [] built roomy e =
    record { readable = tt; commands = omega (arith, roomy.commands); readings = omega (arith, roomy.reading); saves = omega (arith, roomy.saves); apart = refl; finds = omega (arith, roomy.finds); watches = omega (arith, roomy.watches); needles = tt; turns = refl }
session_within session n b (c ∷ cs) built roomy e =
    let d = command_value c in
    let words = and_parts (has_built_word c) (list_all has_built_word cs) built in
    let parts = neither (fault_at session n (command_tests false b d)) (place_in_session false session (n + 1) (next b d) (items_of (map command_value cs))) e in
    let passed = tests_passed b d (no_fault session n (command_tests false b d) parts.0) in
    let own = readable c words.0 passed.number in
    let is = counted b c own in
    let room = room_after b d passed.many in
    let rest = session_within session (n + 1) (next b d) cs words.1 room.0 parts.1 in
    let names = names_among (reads_in c) in
    let own_names : is_again b.names names ≡ false = subst (λ ns. is_again b.names ns ≡ false) is.names passed.name in
    let other_names : is_again (b.names ++ names) (saved_names cs) ≡ false = subst (λ ns. is_again (b.names ++ ns) (saved_names cs) ≡ false) is.names rest.apart in
    let saves : length (b.names ++ names) + length (saved_names cs) ≤ MAX_SAVES = subst (λ ns. length (b.names ++ ns) + length (saved_names cs) ≤ MAX_SAVES) is.names rest.saves in
    let find : one_if (is_do (codes "marks") d) ≡ cond (is_find c) 1 0 = ap one_if is.finds in
    let watch : one_if (is_do (codes "watch") d) ≡ cond (is_watch c) 1 0 = ap one_if is.watches in
    record {
      readable = (own, rest.readable);
      commands = omega (arith, rest.commands);
      readings = omega (arith, rest.readings, is.reading, sum_by-cons readings_of c cs);
      saves = omega (arith, saves, length-append b.names names, length-append names (saved_names cs));
      apart = again-append b.names names (saved_names cs) own_names other_names;
      finds = omega (arith, rest.finds, find, sum_by-cons (λ x. cond (is_find x) 1 0) c cs);
      watches = omega (arith, rest.watches, watch, sum_by-cons (λ x. cond (is_watch x) 1 0) c cs);
      needles = (needles c passed.needle, rest.needles);
      turns = and_from (is_in_turn b.live c) (are_in_turn (plain.live_after c b.live) cs) (is.turn passed.unknown passed.taken room.1) (subst (λ live. are_in_turn live cs ≡ true) is.live rest.turns);
    }

-- what is read in turn is live
one_live : (live : List ℕ) (c : Command) → is_in_turn live c ≡ true → plain.is_live live c ≡ true
one_live live (command.Read k reads) h = h
one_live live (command.Send k reads) h = h
one_live live c h = refl

all_live : (live : List ℕ) (cs : List Command) → are_in_turn live cs ≡ true → are_live live cs ≡ true
all_live live [] h = refl
all_live live (c ∷ cs) h =
    let parts = and_parts (is_in_turn live c) (are_in_turn (plain.live_after c live) cs) h in
    and_from (plain.is_live live c) (are_live (plain.live_after c live) cs) (one_live live c parts.0) (all_live (plain.live_after c live) cs parts.1)

-- ---- the whole script

-- of the tests of a document, those of its shape and of what there is too much of
document_passes : (d : Data) → fault_at 0 0 (document_tests false d) ≡ None → (is_misshapen_document false d ≡ false) × ((nat_lt MAX_SESSIONS (count_items (sessions_in d)) || nat_lt MAX_UNITS (length (opened_text d))) ≡ false)
document_passes d h =
    let ts = document_tests false d in
    let shape = first_passes (is_misshapen_document false d) BadShape (drop 1 ts) (no_fault 0 0 ts h) in
    let many = first_passes (nat_lt MAX_SESSIONS (count_items (sessions_in d)) || nat_lt MAX_UNITS (length (opened_text d))) TooMany (drop 2 ts) shape.1 in
    (shape.0, many.0)

version_is_one : (d : Data) → is_document d ≡ true → is_version_one d ≡ true
version_is_one d h =
    let last = not (opening_breaks wrong_kind true (get (codes "open") d)) && are_sessions (sessions_in d) in
    let parts = and_parts (member_count d == 3) (is_version_one d && last) h in
    (and_parts (is_version_one d) last parts.1).0

-- a script of these parts
abbrev made : ℕ → Opening → List (List Command) → Script
made version o sessions = record { version = version; opening = o; sessions = sessions }

-- a script of what is built
record IsOfBuilt (s : Script) : Type 0 where
  one : length s.sessions ≡ 1
  words : list_all (list_all has_built_word) s.sessions ≡ true

of_built : (s : Script) → is_built s ≡ true → IsOfBuilt s
of_built s built =
    let parts = and_parts (length s.sessions == 1) (list_all (list_all has_built_word) s.sessions) built in
    record { one = eqb-true _ _ parts.0; words = parts.1 }

parts_built : (n : ℕ) (o : Opening) (sessions : List (List Command)) → IsOfBuilt (made n o sessions) → value_place (script_value (made n o sessions)) ≡ None → built_place (script_value (made n o sessions)) ≡ None
unfolding place_by
parts_built n o (cs ∷ []) of h =
    let d = script_value (made n o (cs ∷ [])) in
    let own = neither (fault_at 0 0 (document_tests true d)) (place_in_sessions true 1 at_start (sessions_in d)) h in
    let session = neither (place_in_session true 1 1 at_start (items_of (map command_value cs))) None own.1 in
    let document = other_first (is_misshapen_document true d) (is_misshapen_document false d) BadShape (drop 1 (document_tests true d)) (built_shape (is_unbuilt_document d) (not (is_document d)) refl) (no_fault 0 0 (document_tests true d) own.0) in
    both_none _ _ (fault_none 0 0 (document_tests false d) document) (both_none _ _ (session_built 1 1 at_start cs (and_parts (list_all has_built_word cs) true of.words).0 session.0) refl)
parts_built n o [] of h = absurd (omega (arith, of.one))
parts_built n o (cs ∷ ds ∷ rest) of h = absurd (omega (arith, of.one))

-- the units of an opening that is a text
opening_short : (o : Opening) → length (unwrap_or (option_map utf16_of (string_in (codes "text") (opening_value o))) []) ≤ MAX_UNITS → IfSome (opening_text o) (λ units. length units ≤ MAX_UNITS)
opening_short (opening.Text text) h = h
opening_short (opening.File name e) h = tt

parts_within : (n : ℕ) (o : Opening) (sessions : List (List Command)) → IsOfBuilt (made n o sessions) → built_place (script_value (made n o sessions)) ≡ None → IsReadableScript (made n o sessions) × IsWithinLimits (made n o sessions)
unfolding place_by
parts_within n o (cs ∷ []) of h =
    let d = script_value (made n o (cs ∷ [])) in
    let own = neither (fault_at 0 0 (document_tests false d)) (place_in_sessions false 1 at_start (sessions_in d)) h in
    let document = document_passes d own.0 in
    let version : (n == 1) ≡ true = version_is_one d (not-false (is_document d) (or_false (is_unbuilt_document d && true) (not (is_document d)) document.0).1) in
    let session = neither (place_in_session false 1 1 at_start (items_of (map command_value cs))) None own.1 in
    let words = (and_parts (list_all has_built_word cs) true of.words).0 in
    let roomy : IsRoomy at_start = record { commands = omega arith; reading = omega arith; saves = omega arith; finds = omega arith; watches = omega arith } in
    let is = session_within 1 1 at_start cs words roomy session.0 in
    let all : AllByRecursion (AllByRecursion IsReadable) (cs ∷ []) = (is.readable, tt) in (
      record { version = eqb-true n 1 version; one = refl; commands = all },
      record {
        version = eqb-true n 1 version;
        one = refl;
        opening = opening_short o (ltb-false _ _ document.1);
        commands = (omega (arith, is.commands), tt);
        readings = (omega (arith, is.readings), tt);
        saves = (omega (arith, is.saves), tt);
        apart = (is.apart, tt);
        finds = (omega (arith, is.finds), tt);
        watches = (omega (arith, is.watches), tt);
        built = each_built (cs ∷ []) all;
        numbers = all;
        needles = (is.needles, tt);
        turns = (is.turns, tt);
        live = (all_live [] cs is.turns, tt);
      },
    )
parts_within n o [] of h = absurd (omega (arith, of.one))
parts_within n o (cs ∷ ds ∷ rest) of h = absurd (omega (arith, of.one))

-- a script of what is built whose value has no place is within the limits
script_within : (s : Script) → IsOfBuilt s → built_place (script_value s) ≡ None → IsReadableScript s × IsWithinLimits s
script_within s of h = parts_within s.version s.opening s.sessions of h

-- ---- reading where no place breaks a rule

cond_none : (o : Option Fault) (p : Option Script) (s : Script) → cond (is_some o) None p ≡ Some s → (o ≡ None) × (p ≡ Some s)
cond_none None p s e = (refl, e)
cond_none (Some x) p s e = absurd (none-some s e)

pub value_read : (s : Script) → is_built s ≡ true → BreaksNoRule s → script_of (script_value s) ≡ Some s
unfolding script_of
value_read s built h =
    let of = of_built s built in
    let none = parts_built s.version s.opening s.sessions of h in
    rw none (reading_again s (script_within s of none).0)

-- what is read breaks no rule, and is within the limits
pub read_within : (d : Data) (s : Script) → IsInKeyOrder d → script_of d ≡ Some s → IsWithinLimits s
unfolding script_of
read_within d s sorted e =
    let parts = cond_none (built_place d) (reading d) s e in
    let exact = reading_exact d s sorted parts.1 in
    (script_within s (of_built s (readable_built s exact.1)) (subst (λ v. built_place v ≡ None) exact.0 parts.0)).1

pub value_of_read : (d : Data) (s : Script) → IsInKeyOrder d → script_of d ≡ Some s → (d ≡ script_value s) × (is_built s ≡ true) × BreaksNoRule s
unfolding script_of
value_of_read d s sorted e =
    let parts = cond_none (built_place d) (reading d) s e in
    let exact = reading_exact d s sorted parts.1 in
    (exact.0, readable_built s exact.1, place_more (script_value s) (subst (λ v. built_place v ≡ None) exact.0 parts.0))
