-- The parts of a JSON value: its members, its items, its strings, its whole numbers and its ranges.
use Rattle.std.specs.Prelude.{◌≡◌, ℕ, suc, ◌+◌, ◌==◌, nat_le, List, codes, Bool, true, false, refl, if◌then◌else◌, Option, Some, None, option_map, option_and_then, unwrap_or}
use Rattle.std.specs.Str.{bytes_eq}
use Rattle.points.specs.declared.point.Point.{Point}
use Rattle.points.specs.declared.range.Range.{Range}
use Rattle.points.specs.Point.{point_le}
use Rattle.points.specs.declared.limits.TheConstants.{MAX_COORD}
use Rattle.serde_json.specs.Data.{Data, null, boolean, number, string, array, object, Items, no_items, item, Members, no_members, member}
use Rattle.serde_json.specs.Find.{get, at, as_u64, as_number, as_str, as_bool, as_array}

-- how many members an object has; nothing else has any
abbrev pub count_members : Members → ℕ
count_members no_members = 0
count_members (member k d ms) = suc (count_members ms)

abbrev pub member_count : Data → ℕ
member_count (object ms) = count_members ms
member_count null = 0
member_count (boolean b) = 0
member_count (number n) = 0
member_count (string s) = 0
member_count (array ds) = 0

-- the items of a list; nothing else has any
abbrev pub items_in : Data → Items
items_in d = unwrap_or (as_array d) no_items

-- how many they are
abbrev pub count_items : Items → ℕ
count_items no_items = 0
count_items (item d ds) = suc (count_items ds)

abbrev pub item_count : Data → ℕ
item_count (array ds) = count_items ds
item_count null = 0
item_count (boolean b) = 0
item_count (number n) = 0
item_count (string s) = 0
item_count (object ms) = 0

-- the string of a member, and its whole number where that is at most `limit`
abbrev pub string_in : List ℕ → Data → Option (List ℕ)
string_in key d = option_and_then as_str (get key d)

abbrev pub within : ℕ → ℕ → Option ℕ
within limit n = if nat_le n limit then Some n else None

abbrev pub whole_of : ℕ → Data → Option ℕ
whole_of limit d = option_and_then (within limit) (option_and_then as_u64 (as_number d))

abbrev pub whole_in : ℕ → List ℕ → Data → Option ℕ
whole_in limit key d = option_and_then (whole_of limit) (get key d)

-- whether a member is true or false
abbrev pub flag_in : List ℕ → Data → Option Bool
flag_in key d = option_and_then as_bool (get key d)

-- a member is this word
abbrev pub is_word : Option (List ℕ) → List ℕ → Bool
is_word None word = false
is_word (Some s) word = bytes_eq s word

-- the range between two points, where the end isn't before the start
abbrev pub range_by : (start end : Point) (b : Bool) → point_le start end ≡ b → Option Range
range_by start end true h = Some (record { start = start; end = end; ordered = h })
range_by start end false h = None

abbrev pub range_between : Point → Point → Option Range
range_between start end = range_by start end (point_le start end) refl

abbrev pub coordinate : Data → ℕ → Option ℕ
coordinate d i = option_and_then (whole_of MAX_COORD) (at i d)

abbrev pub point_from : Data → ℕ → Option Point
point_from d i = option_and_then (λ row. option_map (λ column. record { row = row; column = column }) (coordinate d (i + 1))) (coordinate d i)

-- a range: a list of four whole numbers, the row and the column of its start and of its end
unfoldable pub range_of : Data → Option Range
range_of d = if item_count d == 4 then option_and_then (λ start. option_and_then (range_between start) (point_from d 2)) (point_from d 0) else None

abbrev pub range_in : Data → Option Range
range_in d = option_and_then range_of (get (codes "range") d)
