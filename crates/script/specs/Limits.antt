-- The limits within which a script is read.
use Rattle.std.specs.Prelude.{◌≡◌, ◌≤◌, ◌==◌, ◌&&◌, not, ℕ, nat_lt, List, [], ◌∷◌, ◌++◌, length, count_by, sum_by, Bool, true, false, IfSome}
use Rattle.std.specs.List.{AllByRecursion, list_all, list_any}
use Rattle.points.specs.declared.limits.TheConstants.{MAX_UNITS, MAX_COORD, MAX_HANDS}
use Rattle.points.specs.declared.range.Range.{Range}
use Rattle.points.specs.Point.{IsWithin}
use Rattle.script.specs.declared.limits.TheConstants.{MAX_COMMANDS, MAX_READINGS, MAX_SAVES, MAX_FINDS, MAX_WATCHES, MAX_SHOWN, MAX_HITS, MAX_ID}
use Rattle.machine.specs.declared.command.Command.{Command}
use Rattle.machine.specs.declared.command.Command.TheVariants as command
use Rattle.machine.specs.declared.command.Script.{Script}
use Rattle.machine.specs.declared.reads.Read.{Read}
use Rattle.machine.specs.declared.reads.Read.TheVariants as read
use Rattle.machine.specs.Answers.{opening_text}
use Rattle.machine.specs.Lawful.{reads_in}
use Rattle.machine.specs.Plain.{live_after, are_live}
use Rattle.script.specs.Rules.{is_again}

-- ---- what is built

-- a command whose word is built
abbrev pub has_built_word : Command → Bool
has_built_word (command.Edit range text) = true
has_built_word (command.Text range limit) = true
has_built_word command.Undo = true
has_built_word command.Redo = true
has_built_word command.Squash = true
has_built_word (command.Unmark id) = true
has_built_word (command.Range id) = true
has_built_word (command.Exclusive id value) = true
has_built_word (command.Compare a b) = true
has_built_word (command.Mark id range exclusive) = true
has_built_word (command.Marks how range) = true
has_built_word (command.Watch id) = true
has_built_word (command.Unwatch id) = true
has_built_word (command.Take snapshot) = true
has_built_word (command.Read snapshot reads) = true
has_built_word (command.Send snapshot reads) = true
has_built_word (command.Release snapshot) = true
has_built_word c = false

-- ---- numbers

-- a range within the greatest row and column
pub record IsRangeWithin (r : Range) : Type 0 where
  pub start : IsWithin MAX_COORD r.start
  pub end : IsWithin MAX_COORD r.end

-- a read, its numbers within their limits
abbrev pub IsReadableRead : Read → Type 0
IsReadableRead read.Size = Unit {0}
IsReadableRead (read.Text range limit) = IsRangeWithin range × (limit ≤ MAX_SHOWN)
IsReadableRead (read.Find needle limit) = limit ≤ MAX_HITS
IsReadableRead (read.Pattern pattern limit) = limit ≤ MAX_HITS
IsReadableRead (read.Save name encoding) = Unit {0}

-- a command that is built, its numbers within their limits
abbrev pub IsReadable : Command → Type 0
IsReadable (command.Edit range text) = IsRangeWithin range
IsReadable (command.Text range limit) = IsRangeWithin range × (limit ≤ MAX_SHOWN)
IsReadable command.Undo = Unit {0}
IsReadable command.Redo = Unit {0}
IsReadable command.Squash = Unit {0}
IsReadable (command.Unmark id) = id ≤ MAX_ID
IsReadable (command.Range id) = id ≤ MAX_ID
IsReadable (command.Exclusive id value) = id ≤ MAX_ID
IsReadable (command.Compare a b) = (a ≤ MAX_ID) × (b ≤ MAX_ID)
IsReadable (command.Mark id range exclusive) = (id ≤ MAX_ID) × IsRangeWithin range
IsReadable (command.Marks how range) = IsRangeWithin range
IsReadable (command.Watch id) = id ≤ MAX_ID
IsReadable (command.Unwatch id) = id ≤ MAX_ID
IsReadable (command.Take snapshot) = snapshot ≤ MAX_ID
IsReadable (command.Read snapshot reads) = (snapshot ≤ MAX_ID) × AllByRecursion IsReadableRead reads
IsReadable (command.Send snapshot reads) = (snapshot ≤ MAX_ID) × AllByRecursion IsReadableRead reads
IsReadable (command.Release snapshot) = snapshot ≤ MAX_ID
IsReadable c = ⊥

-- ---- counts

-- how many texts a command shows, and how many reads it has: its readings
abbrev pub readings_of : Command → ℕ
readings_of (command.Text range limit) = 1
readings_of (command.Marks how range) = 1
readings_of (command.Read snapshot reads) = length reads
readings_of (command.Send snapshot reads) = length reads
readings_of c = 0

-- a command that asks for marks, and one that begins to watch
abbrev pub is_find : Command → Bool
is_find (command.Marks how range) = true
is_find c = false

abbrev pub is_watch : Command → Bool
is_watch (command.Watch id) = true
is_watch c = false

-- ---- saves

-- the name under which a read saves, if it does, and the names of reads and of the commands of a session, in their order
abbrev pub name_in : Read → List (List ℕ)
name_in (read.Save name encoding) = name ∷ []
name_in r = []

abbrev pub names_among : List Read → List (List ℕ)
names_among [] = []
names_among (r ∷ rs) = name_in r ++ names_among rs

abbrev pub saved_names : List Command → List (List ℕ)
saved_names [] = []
saved_names (c ∷ cs) = names_among (reads_in c) ++ saved_names cs

-- ---- snapshots

-- With these numbers live: a `take` makes another number live and finds a hand, and a number that is read, sent or released is live.
abbrev pub is_in_turn : List ℕ → Command → Bool
is_in_turn live (command.Take k) = not (list_any (λ n. n == k) live) && nat_lt (length live) MAX_HANDS
is_in_turn live (command.Read k reads) = list_any (λ n. n == k) live
is_in_turn live (command.Send k reads) = list_any (λ n. n == k) live
is_in_turn live (command.Release k) = list_any (λ n. n == k) live
is_in_turn live c = true

abbrev pub are_in_turn : List ℕ → List Command → Bool
are_in_turn live [] = true
are_in_turn live (c ∷ cs) = is_in_turn live c && are_in_turn (live_after c live) cs

-- ---- needles

-- a needle isn't empty
abbrev pub has_needle : Read → Bool
has_needle (read.Find needle limit) = not (length needle == 0)
has_needle r = true

abbrev pub has_needles : Command → Bool
has_needles (command.Read snapshot reads) = list_all has_needle reads
has_needles (command.Send snapshot reads) = list_all has_needle reads
has_needles c = true

-- ---- the whole script

-- A script that was read: of version 1, over a text of so many units or a file, with one session of so many commands. Each has a word that is built,
-- its numbers within their limits and no empty needle; no two saves have one name; the numbers of snapshots are taken, read and released in turn.
pub record IsWithinLimits (s : Script) : Type 0 where
  pub version : s.version ≡ 1
  pub one : length s.sessions ≡ 1
  pub opening : IfSome (opening_text s.opening) (λ units. length units ≤ MAX_UNITS)
  pub commands : AllByRecursion (λ cs. length cs ≤ MAX_COMMANDS) s.sessions
  pub readings : AllByRecursion (λ cs. sum_by readings_of cs ≤ MAX_READINGS) s.sessions
  pub saves : AllByRecursion (λ cs. length (saved_names cs) ≤ MAX_SAVES) s.sessions
  pub apart : AllByRecursion (λ cs. is_again [] (saved_names cs) ≡ false) s.sessions
  pub finds : AllByRecursion (λ cs. count_by is_find cs ≤ MAX_FINDS) s.sessions
  pub watches : AllByRecursion (λ cs. count_by is_watch cs ≤ MAX_WATCHES) s.sessions
  pub built : AllByRecursion (λ cs. AllByRecursion (λ c. has_built_word c ≡ true) cs) s.sessions
  pub numbers : AllByRecursion (λ cs. AllByRecursion IsReadable cs) s.sessions
  pub needles : AllByRecursion (λ cs. AllByRecursion (λ c. has_needles c ≡ true) cs) s.sessions
  pub turns : AllByRecursion (λ cs. are_in_turn [] cs ≡ true) s.sessions
  pub live : AllByRecursion (λ cs. are_live [] cs ≡ true) s.sessions
