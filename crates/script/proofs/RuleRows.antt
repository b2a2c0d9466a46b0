-- The rules of a script on small values, worked out by computing.
use Rattle.std.proofs.Common.{◌≡◌, ℕ, List, [], ◌∷◌, true, false, Option, Some, None, refl}
use Rattle.std.specs.Prelude.{codes}
use Rattle.std.specs.Str.{chars}
use Rattle.script.specs.declared.refusal.ScriptRule.{ScriptRule}
use Rattle.script.specs.declared.refusal.ScriptRule.TheVariants.{BadShape, TooMany, UnknownSnapshot, SnapshotTaken, BadNumber, BadEncoding, EmptyNeedle, BadName}
use Rattle.machine.specs.declared.command.Command.TheVariants as command
use Rattle.script.specs.Limits.{are_in_turn}
use Rattle.script.specs.Parts.{range_of}
use Rattle.script.specs.Rules.{at_start, command_tests, first_broken, Fault, value_place, place_by}
use Rattle.script.specs.TranscriptDocument.{whole}
use Rattle.serde_json.specs.Data.{Data, null, string, array, object, Items, no_items, item, Members, no_members, member}

-- a member in front of others
abbrev with : List ℕ → Data → Members → Members
with key d ms = member key d ms

-- a command with this word, and a read with this word
abbrev doing : List ℕ → Members → Data
doing word ms = object (with (codes "do") (string word) ms)

abbrev getting : List ℕ → Members → Data
getting word ms = object (with (codes "get") (string word) ms)

abbrev range : ℕ → ℕ → ℕ → ℕ → Data
range a b c d = array (item (whole a) (item (whole b) (item (whole c) (item (whole d) no_items))))

abbrev edit : Data → Data
edit r = doing (codes "edit") (with (codes "range") r (with (codes "text") (string []) no_members))

abbrev look : ℕ → Data
look limit = doing (codes "text") (with (codes "range") (range 0 0 0 0) (with (codes "limit") (whole limit) no_members))

abbrev take : ℕ → Data
take n = doing (codes "take") (with (codes "snapshot") (whole n) no_members)

abbrev send : ℕ → Data
send n = doing (codes "send") (with (codes "snapshot") (whole n) (with (codes "reads") (array no_items) no_members))

abbrev reading : ℕ → Items → Data
reading n ds = doing (codes "read") (with (codes "snapshot") (whole n) (with (codes "reads") (array ds) no_members))

abbrev find : List ℕ → ℕ → Data
find needle limit = getting (codes "find") (with (codes "needle") (string needle) (with (codes "limit") (whole limit) no_members))

abbrev save : List ℕ → List ℕ → Data
save name encoding = getting (codes "save") (with (codes "name") (string name) (with (codes "encoding") (string encoding) no_members))

-- The first rule that a command breaks where the snapshot 7 is live, `a` was saved, 4,096 readings were asked for and earlier sessions need
-- 24 hands: with 7 live and one more, 26.
broken : Data → Option ScriptRule
broken d = first_broken (command_tests true (record at_start { reading = 4095; live = 7 ∷ []; names = codes "a" ∷ []; peaks = 24 }) d)

-- a number that isn't live comes before a limit out of its range and an empty needle; a read that is no object comes before all that
unknown_before_number : broken (reading 8 (item (find [] 1001) no_items)) ≡ Some UnknownSnapshot
unfolding broken range_of
unknown_before_number = refl

shape_before_unknown : broken (reading 8 (item (find [] 1001) (item null no_items))) ≡ Some BadShape
unfolding broken range_of
shape_before_unknown = refl

number_before_needle : broken (reading 7 (item (find [] 1001) no_items)) ≡ Some BadNumber
unfolding broken range_of
number_before_needle = refl

empty_needle : broken (reading 7 (item (find [] 1000) no_items)) ≡ Some EmptyNeedle
unfolding broken range_of
empty_needle = refl

good_find : broken (reading 7 (item (find (codes "b") 1000) no_items)) ≡ None
unfolding broken range_of
good_find = refl

-- the reads count, each for itself
second_reading : broken (reading 7 (item (find (codes "b") 1000) (item (find (codes "b") 1000) no_items))) ≡ Some TooMany
unfolding broken range_of
second_reading = refl

taken_again : broken (take 7) ≡ Some SnapshotTaken
unfolding broken range_of
taken_again = refl

end_before_start : broken (edit (range 1 0 0 9)) ≡ Some BadNumber
unfolding broken range_of
end_before_start = refl

three_numbers : broken (edit (array (item (whole 0) (item (whole 0) (item (whole 0) no_items))))) ≡ Some BadShape
unfolding broken range_of
three_numbers = refl

other_member : broken (doing (codes "undo") (with (codes "id") (whole 0) no_members)) ≡ Some BadShape
unfolding broken range_of
other_member = refl

unknown_how : broken (doing (codes "marks") (with (codes "how") (string (codes "near")) (with (codes "range") (range 0 0 0 0) no_members))) ≡ Some BadShape
unfolding broken range_of
unknown_how = refl

encoding_before_name : broken (reading 7 (item (save (codes ".b") (codes "ascii")) no_items)) ≡ Some BadEncoding
unfolding broken range_of
encoding_before_name = refl

dot_first : broken (reading 7 (item (save (codes ".b") (codes "utf8")) no_items)) ≡ Some BadName
unfolding broken range_of
dot_first = refl

saved_before : broken (reading 7 (item (save (codes "a") (codes "utf8")) no_items)) ≡ Some BadName
unfolding broken range_of
saved_before = refl

-- ---- documents

abbrev session : Items → Data
session ds = array ds

abbrev opened : Data
opened = object (with (codes "text") (string []) no_members)

place : Data → Items → Option Fault
place opening sessions = value_place (object (with (codes "open") opening (with (codes "sessions") (array sessions) (with (codes "version") (whole 1) no_members))))

-- a snapshot is live in its own session alone, and its number may be taken again once it was ended
live_here : place opened (item (session (item (take 1) (item (send 1) (item (take 1) no_items)))) no_items) ≡ None
unfolding place place_by range_of chars
live_here = refl

live_there : place opened (item (session (item (take 1) no_items)) (item (session (item (look 0) (item (send 1) no_items))) no_items)) ≡ Some (2, 2, UnknownSnapshot)
unfolding place place_by range_of chars
live_there = refl

-- the document comes first, and then the first place, whatever the rules are
document_first : place null (item (session (item (look 65537) no_items)) no_items) ≡ Some (0, 0, BadShape)
unfolding place place_by range_of chars
document_first = refl

first_place : place opened (item (session (item (look 65537) (item null no_items))) no_items) ≡ Some (1, 1, BadNumber)
unfolding place place_by range_of chars
first_place = refl

a_file : place (object (with (codes "file") (string (codes "a.txt")) (with (codes "encoding") (string (codes "latin1")) no_members))) (item (session no_items) no_items) ≡ None
unfolding place place_by range_of chars
a_file = refl

unknown_encoding : place (object (with (codes "file") (string (codes "a")) (with (codes "encoding") (string (codes "ascii")) no_members))) (item (session no_items) no_items) ≡ Some (0, 0, BadEncoding)
unfolding place place_by range_of chars
unknown_encoding = refl

-- The same command by what is built.
built_broken : Data → Option ScriptRule
built_broken d = first_broken (command_tests false (record at_start { live = 7 ∷ [] }) d)

save_is_built : built_broken (reading 7 (item (save (codes "a") (codes "utf8")) no_items)) ≡ None
unfolding built_broken range_of
save_is_built = refl

-- numbers come before encodings, whichever read has them
number_before_encoding : built_broken (reading 7 (item (save (codes "a") (codes "ascii")) (item (find (codes "b") 1001) no_items))) ≡ Some BadNumber
unfolding built_broken range_of
number_before_encoding = refl

saved_twice : built_broken (reading 7 (item (save (codes "a") (codes "utf8")) (item (save (codes "a") (codes "latin1")) no_items))) ≡ Some BadName
unfolding built_broken range_of
saved_twice = refl

find_is_built : built_broken (reading 7 (item (find (codes "b") 1000) no_items)) ≡ None
unfolding built_broken range_of
find_is_built = refl

-- a `send` is built, and needs a live number too
send_is_built : built_broken (send 7) ≡ None
unfolding built_broken range_of
send_is_built = refl

sent_unknown : built_broken (send 8) ≡ Some UnknownSnapshot
unfolding built_broken range_of
sent_unknown = refl

-- a number that was ended may be taken again, and one that is live may not
taken_after_release : are_in_turn [] (command.Take 1 ∷ command.Release 1 ∷ command.Take 1 ∷ []) ≡ true
taken_after_release = refl

taken_twice : are_in_turn [] (command.Take 1 ∷ command.Take 1 ∷ []) ≡ false
taken_twice = refl
