-- The rules of a script: at each place the tests in the order of the rules, and the first place that breaks one.
use Rattle.std.specs.Prelude.{ℕ, ◌+◌, ◌==◌, ◌&&◌, ◌||◌, not, nat_le, nat_lt, max, List, [], ◌∷◌, ◌++◌, length, codes, filter, find, Bool, true, false, if◌then◌else◌, Option, Some, None, is_some, option_map, option_and_then, option_to_list, unwrap_or}
use Rattle.std.specs.List.{list_any, list_all}
use Rattle.std.specs.Option.{option_or}
use Rattle.std.specs.Str.{bytes_eq}
use Rattle.points.specs.Text.{utf16_of}
use Rattle.points.specs.declared.limits.TheConstants.{MAX_UNITS, MAX_HANDS}
use Rattle.script.specs.declared.limits.TheConstants.{MAX_SESSIONS, MAX_COMMANDS, MAX_READINGS, MAX_SAVES, MAX_FINDS, MAX_WATCHES, MAX_NAME, MAX_ID}
use Rattle.script.specs.declared.refusal.ScriptRule.{ScriptRule}
use Rattle.script.specs.declared.refusal.ScriptRule.TheVariants.{BadShape, TooMany, UnknownSnapshot, SnapshotTaken, BadNumber, BadEncoding, EmptyNeedle, BadName}
use Rattle.script.specs.Parts.{member_count, items_in, count_items, string_in, whole_of, whole_in, is_word, range_of}
use Rattle.script.specs.Rows.{Kind, Field, Row, how_words, encoding_words, command_rows, read_rows, text_opening, file_opening}
use Rattle.script.specs.Rows as kind
use Rattle.serde_json.specs.Data.{Data, Items, no_items, item}
use Rattle.serde_json.specs.Find.{get, as_str, as_bool, as_number, as_array, as_u64}

-- ---- what a member breaks by itself

abbrev pub any_item : (Data → Bool) → Items → Bool
any_item test no_items = false
any_item test (item d ds) = test d || any_item test ds

-- one of these words
abbrev pub is_one_of : List (List ℕ) → Option (List ℕ) → Bool
is_one_of words s = list_any (is_word s) words

-- four numbers
abbrev pub is_number : Data → Bool
is_number d = is_some (as_number d)

abbrev pub is_quadruple : Data → Bool
is_quadruple d = (count_items (items_in d) == 4) && not (any_item (λ n. not (is_number n)) (items_in d))

-- the value has the JSON kind that is asked for
abbrev pub has_kind : Kind → Data → Bool
has_kind kind.text d = is_some (as_str d)
has_kind kind.flag d = is_some (as_bool d)
has_kind (kind.whole limit) d = is_some (as_number d)
has_kind kind.range d = is_quadruple d
has_kind kind.how d = is_one_of how_words (as_str d)
has_kind kind.encoding d = is_some (as_str d)
has_kind kind.needle d = is_some (as_str d)
has_kind kind.name d = is_some (as_str d)
has_kind kind.reads d = is_some (as_array d)

abbrev pub wrong_kind : Kind → Data → Bool
wrong_kind k d = not (has_kind k d)

-- a number that isn't whole or lies outside its limits, or a range whose end is before its start
abbrev pub wrong_number : Kind → Data → Bool
wrong_number (kind.whole limit) d = not (is_some (whole_of limit d))
wrong_number kind.range d = not (is_some (range_of d))
wrong_number k d = false

abbrev pub wrong_encoding : Kind → Data → Bool
wrong_encoding kind.encoding d = not (is_one_of encoding_words (as_str d))
wrong_encoding k d = false

abbrev pub empty_needle : Kind → Data → Bool
empty_needle kind.needle d = is_word (as_str d) []
empty_needle k d = false

-- a letter, a digit, `.`, `_` or `-`
abbrev pub is_name_byte : ℕ → Bool
is_name_byte b = (nat_le 65 b && nat_le b 90) || (nat_le 97 b && nat_le b 122) || (nat_le 48 b && nat_le b 57) || (b == 46) || (b == 95) || (b == 45)

-- 1 to 64 of these, and no `.` first
abbrev pub is_name : List ℕ → Bool
is_name [] = false
is_name (b ∷ bytes) = not (b == 46) && nat_le (length (b ∷ bytes)) MAX_NAME && list_all is_name_byte (b ∷ bytes)

abbrev pub wrong_name : Kind → Data → Bool
wrong_name kind.name d = not (is_some (option_and_then (λ s. if is_name s then Some s else None) (as_str d)))
wrong_name k d = false

-- ---- what an object breaks by its row

-- Each rule is a test of kind and value; a rule of shape (`shape`) is also broken by a member that is missing or that no row has.
abbrev pub field_breaks : (Kind → Data → Bool) → Bool → Kind → Option Data → Bool
field_breaks test shape k None = shape
field_breaks test shape k (Some d) = test k d

abbrev pub any_field_breaks : (Kind → Data → Bool) → Bool → Data → List Field → Bool
any_field_breaks test shape d [] = false
any_field_breaks test shape d (f ∷ fs) = field_breaks test shape f.1 (get f.0 d) || any_field_breaks test shape d fs

-- with these members, and `more` beside them
abbrev pub fields_break : (Kind → Data → Bool) → Bool → ℕ → Data → List Field → Bool
fields_break test shape more d fs = (shape && not (member_count d == length fs + more)) || any_field_breaks test shape d fs

-- the row whose word stands under the key
abbrev pub row_of : List Row → List ℕ → Data → Option Row
row_of rows key d = find (λ row. is_word (string_in key d) row.0) rows

abbrev pub by_row : (Kind → Data → Bool) → Bool → Data → Option Row → Bool
by_row test shape d None = shape
by_row test shape d (Some row) = fields_break test shape 1 d row.1

abbrev pub read_breaks : (Kind → Data → Bool) → Bool → Data → Bool
read_breaks test shape d = by_row test shape d (row_of read_rows (codes "get") d)

-- a list of reads breaks what one of them breaks
abbrev pub with_reads : (Kind → Data → Bool) → Bool → Kind → Data → Bool
with_reads test shape kind.reads d = test kind.reads d || any_item (read_breaks test shape) (items_in d)
with_reads test shape k d = test k d

abbrev pub command_breaks : (Kind → Data → Bool) → Bool → Data → Bool
command_breaks test shape d = by_row (with_reads test shape) shape d (row_of command_rows (codes "do") d)

-- ---- what stood before a command

-- the commands, the reading commands and reads, the `marks` and the `watch` commands, and the names of saves, all of the script; the
-- greatest numbers of snapshots live at once in each earlier session, summed; and the greatest number, and those live, in this session
pub record Before : Type 0 where
  pub commands : ℕ
  pub reading : ℕ
  pub marks : ℕ
  pub watches : ℕ
  pub names : List (List ℕ)
  pub peaks : ℕ
  pub peak : ℕ
  pub live : List ℕ

abbrev pub at_start : Before
at_start = record { commands = 0; reading = 0; marks = 0; watches = 0; names = []; peaks = 0; peak = 0; live = [] }

abbrev pub is_do : List ℕ → Data → Bool
is_do word d = is_word (string_in (codes "do") d) word

abbrev pub one_if : Bool → ℕ
one_if b = if b then 1 else 0

-- the reads of a `read` or a `send`
abbrev pub reads_in : Data → Items
reads_in d = if is_do (codes "read") d || is_do (codes "send") d then unwrap_or (option_and_then as_array (get (codes "reads") d)) no_items else no_items

-- how many readings it adds
abbrev pub readings_in : Data → ℕ
readings_in d = one_if (is_do (codes "text") d || is_do (codes "marks") d) + count_items (reads_in d)

-- a read that saves, and the names of the saves among reads
abbrev pub is_save : Data → Bool
is_save d = is_word (string_in (codes "get") d) (codes "save")

abbrev pub save_name : Data → Option (List ℕ)
save_name d = if is_save d then string_in (codes "name") d else None

abbrev pub names_in : Items → List (List ℕ)
names_in no_items = []
names_in (item d ds) = option_to_list (save_name d) ++ names_in ds

abbrev pub snapshot_in : Data → Option ℕ
snapshot_in d = whole_in MAX_ID (codes "snapshot") d

-- the number that it names is live
abbrev pub names_one_of : List ℕ → Option ℕ → Bool
names_one_of live None = false
names_one_of live (Some n) = list_any (λ m. m == n) live

abbrev pub is_live : Before → Data → Bool
is_live b d = names_one_of b.live (snapshot_in d)

-- the numbers that are live after it: a `take` makes its number live, a `send` and a `release` end theirs
abbrev pub ended : List ℕ → Option ℕ → List ℕ
ended live None = live
ended live (Some n) = filter (λ m. not (m == n)) live

abbrev pub live_after : List ℕ → Data → List ℕ
live_after live d =
    if is_do (codes "take") d then option_to_list (snapshot_in d) ++ live
    else (if is_do (codes "send") d || is_do (codes "release") d then ended live (snapshot_in d) else live)

abbrev pub next : Before → Data → Before
next b d = record {
  commands = b.commands + 1;
  reading = b.reading + readings_in d;
  marks = b.marks + one_if (is_do (codes "marks") d);
  watches = b.watches + one_if (is_do (codes "watch") d);
  names = b.names ++ names_in (reads_in d);
  peaks = b.peaks;
  peak = max b.peak (length (live_after b.live d));
  live = live_after b.live d;
}

abbrev pub next_session : Before → Before
next_session b = record b { peaks = b.peaks + b.peak; peak = 0; live = [] }

-- with this command there is too much of something
abbrev pub is_too_many : Before → Data → Bool
is_too_many b d =
    nat_lt MAX_COMMANDS (next b d).commands || nat_lt MAX_READINGS (next b d).reading || nat_lt MAX_SAVES (length (next b d).names)
    || nat_lt MAX_FINDS (next b d).marks || nat_lt MAX_WATCHES (next b d).watches || (is_do (codes "take") d && nat_lt MAX_HANDS (b.peaks + length b.live + 1))

-- this name is one of those
abbrev pub is_among : List (List ℕ) → List ℕ → Bool
is_among names s = list_any (bytes_eq s) names

-- one of these names is there already, or stands twice among them
abbrev pub is_again : List (List ℕ) → List (List ℕ) → Bool
is_again there [] = false
is_again there (s ∷ more) = is_among there s || is_again (there ++ s ∷ []) more

-- ---- the tests at each place

abbrev pub needs_live : Data → Bool
needs_live d = is_do (codes "read") d || is_do (codes "send") d || is_do (codes "release") d

-- the words of the commands that are built, those without a member beside them first
abbrev pub bare_words : List (List ℕ)
bare_words = codes "undo" ∷ codes "redo" ∷ codes "squash" ∷ []

abbrev pub built_words : List (List ℕ)
built_words =
    codes "edit" ∷ codes "text" ∷ codes "unmark" ∷ codes "range" ∷ codes "exclusive" ∷ codes "compare" ∷ codes "mark" ∷ codes "marks" ∷ codes "watch" ∷ codes "unwatch"
    ∷ codes "take" ∷ codes "read" ∷ codes "send" ∷ codes "release" ∷ bare_words

-- a command on marks and watchers
abbrev pub is_on_marks : Data → Bool
is_on_marks d = is_one_of (codes "unmark" ∷ codes "range" ∷ codes "exclusive" ∷ codes "compare" ∷ codes "mark" ∷ codes "marks" ∷ codes "watch" ∷ codes "unwatch" ∷ []) (string_in (codes "do") d)

-- a command on snapshots
abbrev pub is_on_snapshots : Data → Bool
is_on_snapshots d = is_one_of (codes "take" ∷ codes "read" ∷ codes "send" ∷ codes "release" ∷ []) (string_in (codes "do") d)

-- a command whose word has no member beside it
abbrev pub is_bare : Data → Bool
is_bare d = is_one_of bare_words (string_in (codes "do") d)

-- a command that isn't built
abbrev pub is_unbuilt : Data → Bool
is_unbuilt d = not (is_one_of built_words (string_in (codes "do") d))

-- The shape of a command is broken; unless `all` words are looked at, also where its word isn't built.
abbrev pub is_misshapen : Bool → Data → Bool
is_misshapen all d = (is_unbuilt d && not all) || command_breaks wrong_kind true d

-- what a command breaks, in the order of the rules
abbrev pub command_tests : Bool → Before → Data → List (Bool × ScriptRule)
command_tests all b d =
    (is_misshapen all d, BadShape)
    ∷ (is_too_many b d, TooMany)
    ∷ (needs_live d && not (is_live b d), UnknownSnapshot)
    ∷ (is_do (codes "take") d && is_live b d, SnapshotTaken)
    ∷ (command_breaks wrong_number false d, BadNumber)
    ∷ (command_breaks wrong_encoding false d, BadEncoding)
    ∷ (command_breaks empty_needle false d, EmptyNeedle)
    ∷ (command_breaks wrong_name false d || is_again b.names (names_in (reads_in d)), BadName)
    ∷ []

-- the members of the opening
abbrev pub opening_fields : Data → List Field
opening_fields d = if is_some (get (codes "text") d) then text_opening else file_opening

abbrev pub opening_breaks : (Kind → Data → Bool) → Bool → Option Data → Bool
opening_breaks test shape None = shape
opening_breaks test shape (Some d) = fields_break test shape 0 d (opening_fields d)

abbrev pub is_one : Option ℕ → Bool
is_one None = false
is_one (Some n) = n == 1

abbrev pub is_version_one : Data → Bool
is_version_one d = is_one (option_and_then as_u64 (option_and_then as_number (get (codes "version") d)))

-- the sessions: lists, at least one
abbrev pub sessions_in : Data → Items
sessions_in d = unwrap_or (option_and_then as_array (get (codes "sessions") d)) no_items

abbrev pub are_sessions : Items → Bool
are_sessions no_items = false
are_sessions (item d ds) = not (any_item (λ session. not (is_some (as_array session))) (item d ds))

-- an object with the members `version`, `open` and `sessions`
abbrev pub is_document : Data → Bool
is_document d = (member_count d == 3) && (is_version_one d && (not (opening_breaks wrong_kind true (get (codes "open") d)) && are_sessions (sessions_in d)))

-- a document that isn't built: of other than one session
abbrev pub is_unbuilt_document : Data → Bool
is_unbuilt_document d = not (count_items (sessions_in d) == 1)

abbrev pub is_misshapen_document : Bool → Data → Bool
is_misshapen_document all d = (is_unbuilt_document d && not all) || not (is_document d)

-- the units of the opening text, where it is one
abbrev pub opened_text : Data → List ℕ
opened_text d = unwrap_or (option_map utf16_of (option_and_then (string_in (codes "text")) (get (codes "open") d))) []

-- what the document itself breaks, in the order of the rules
abbrev pub document_tests : Bool → Data → List (Bool × ScriptRule)
document_tests all d =
    (is_misshapen_document all d, BadShape)
    ∷ (nat_lt MAX_SESSIONS (count_items (sessions_in d)) || nat_lt MAX_UNITS (length (opened_text d)), TooMany)
    ∷ (opening_breaks wrong_encoding false (get (codes "open") d), BadEncoding)
    ∷ (opening_breaks wrong_name false (get (codes "open") d), BadName)
    ∷ []

-- ---- the place of a fault

-- session, command and rule
abbrev pub Fault : Type 0
Fault = ℕ × ℕ × ScriptRule

abbrev pub first_broken : List (Bool × ScriptRule) → Option ScriptRule
first_broken [] = None
first_broken (t ∷ ts) = if t.0 then Some t.1 else first_broken ts

abbrev pub fault_at : ℕ → ℕ → List (Bool × ScriptRule) → Option Fault
fault_at session command ts = option_map (λ why. (session, command, why)) (first_broken ts)

-- the first command that breaks a rule, from the one with this number on
abbrev pub place_in_session : Bool → ℕ → ℕ → Before → Items → Option Fault
place_in_session all session command b no_items = None
place_in_session all session command b (item d ds) = option_or (fault_at session command (command_tests all b d)) (place_in_session all session (command + 1) (next b d) ds)

-- what stands before the next session
abbrev pub after_commands : Before → Items → Before
after_commands b no_items = next_session b
after_commands b (item d ds) = after_commands (next b d) ds

abbrev pub place_in_sessions : Bool → ℕ → Before → Items → Option Fault
place_in_sessions all session b no_items = None
place_in_sessions all session b (item d ds) = option_or (place_in_session all session 1 b (items_in d)) (place_in_sessions all (session + 1) (after_commands b (items_in d)) ds)

-- The first place of the value of a document that breaks a rule, with the lowest rule that it breaks there: the document itself is 0 0.
-- `all` looks at the rules alone; without it what isn't built breaks the rule of shape at its place.
unfoldable pub place_by : Bool → Data → Option Fault
place_by all d = option_or (fault_at 0 0 (document_tests all d)) (place_in_sessions all 1 at_start (sessions_in d))

-- by the rules alone, and with what isn't built
abbrev pub value_place : Data → Option Fault
value_place = place_by true

abbrev pub built_place : Data → Option Fault
built_place = place_by false
