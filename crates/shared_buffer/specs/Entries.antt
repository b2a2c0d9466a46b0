-- The history of a shared buffer: its entries, and what they make of the plain machine's state and of the hands.
use Rattle.std.specs.Prelude.{◌≡◌, ℕ, ◌<◌, ◌≤◌, nat_lt, cond, List, [], ◌∷◌, length, Bool, true, false, Option, Some, None, slice_index_or, slice_set, is_some, ⊤}
use Rattle.points.specs.declared.limits.TheConstants.{MAX_HANDS, LAST}
use Rattle.chains.specs.declared.size.LayerSize.{LayerSize}
use Rattle.machine.specs.declared.command.Command.{Command}
use Rattle.machine.specs.declared.command.Command.TheVariants as command
use Rattle.machine.specs.declared.reply.Reply.{Reply}
use Rattle.machine.specs.Machine.{State}
use Rattle.machine.specs.Answers.{call_of}
use Rattle.machine.specs.Plain.{after_call, plain_reply}
use Rattle.turn_table.specs.Meaning.{Meaning, first_free}

-- the plain machine's state, and for each hand whether it is out
pub record Shared : Type 0 where
  pub plain : State
  pub out : List Bool

-- A call with its reply: a numbered call, whose reply is nothing where no number was left; a hand that was asked for, with its number where one was made; a hand given back; a snapshot, with its text and version; the whole text that was asked for, with how many calls were numbered; the layers put together, with how many there are then; and how large the layers are
pub data Entry : Type 0 where
  called : Command → Option Reply → Entry
  handed : Option ℕ → Entry
  given_back : ℕ → Entry
  taken : List ℕ → ℕ → Entry
  finished : List ℕ → ℕ → Entry
  squashed : ℕ → Entry
  shaped : List LayerSize → Entry

-- the command is a numbered call, one edit at most, and brings no watcher
abbrev pub is_plain : Command → Bool
is_plain (command.Batch edits) = false
is_plain (command.Watch id) = false
is_plain (command.Unwatch id) = false
is_plain c = is_some (call_of c)

abbrev pub is_out : Shared → ℕ → Bool
is_out x n = slice_index_or x.out n false

-- the lowest hand number that isn't out, where one isn't
abbrev pub free_of : Shared → ℕ
free_of x = first_free (is_out x) MAX_HANDS 0

abbrev pub free_number : Shared → Option ℕ
free_number x = cond (nat_lt (free_of x) MAX_HANDS) (Some (free_of x)) None

abbrev pub with_out : Shared → ℕ → Bool → Shared
with_out x n b = record { plain = x.plain; out = slice_set x.out n b }

abbrev pub after_called : Shared → Command → Option Reply → Shared
after_called x c None = x
after_called x c (Some r) = record { plain = after_call x.plain (call_of c); out = x.out }

abbrev pub after_handed : Shared → Option ℕ → Shared
after_handed x None = x
after_handed x (Some n) = with_out x n true

abbrev pub after : Shared → Entry → Shared
after x (called c r) = after_called x c r
after x (handed n) = after_handed x n
after x (given_back n) = with_out x n false
after x (taken text version) = x
after x (finished text count) = x
after x (squashed depth) = x
after x (shaped sizes) = x

-- only calls that get a number count as calls of their desk
abbrev pub is_numbered : Entry → Bool
is_numbered (called c r) = is_some r
is_numbered (handed n) = false
is_numbered (given_back n) = false
is_numbered (taken text version) = false
is_numbered (finished text count) = false
is_numbered (squashed depth) = false
is_numbered (shaped sizes) = false

module _ (version : ℕ) where
  -- the reply to a numbered call in a transcript of this version; nothing where no number is left for it
  abbrev pub said : State → Command → Option Reply
  said s c = cond (nat_lt s.count LAST) (Some (plain_reply version s [] [] c)) None

  -- Each call has one reply, but where it tells of layers, which the state doesn't know
  abbrev pub next : Shared → Entry → Option Entry
  next x (called c r) = Some (called c (said x.plain c))
  next x (handed n) = Some (handed (free_number x))
  next x (given_back n) = Some (given_back n)
  next x (taken text version) = Some (taken x.plain.text x.plain.version)
  next x (finished text count) = Some (finished x.plain.text x.plain.count)
  next x (squashed depth) = None
  next x (shaped sizes) = None

  abbrev pub meaning : Meaning Entry Shared
  meaning = record { next = next; after = after; is_numbered = is_numbered; is_out = is_out }

-- the sizes of layers: a base, which has no change, and at most seven above it
pub record AreLayers (sizes : List LayerSize) : Type 0 where
  pub above : List LayerSize
  pub base : sizes ≡ record { changes = 0; units = 0 } ∷ above
  pub shallow : length above < 8

-- What holds of a reply that the state leaves open: at most one layer stands above the base once they were put together
abbrev pub Meets : Shared → Entry → Type 0
Meets x (called c r) = ⊤
Meets x (handed n) = ⊤
Meets x (given_back n) = ⊤
Meets x (taken text version) = ⊤
Meets x (finished text count) = ⊤
Meets x (squashed depth) = depth ≤ 2
Meets x (shaped sizes) = AreLayers sizes
