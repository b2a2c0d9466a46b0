-- The calls and replies under the lock, as entries of the history.
use Rattle.std.specs.Prelude.{◌≡◌, refl, ℕ, Bool, true, false, List, [], Option, Some, None}
use Rattle.atomic_table.specs.Seated.{TableId}
use Rattle.chains.specs.declared.size.LayerSize.{LayerSize}
use Rattle.machine.specs.declared.reply.Reply as machine_reply
use Rattle.turn_table.specs.declared.view.View.{View}
use Rattle.turn_table.specs.Given.{seat_in}
use Rattle.shared_buffer.specs.declared.call.Call.{Call}
use Rattle.shared_buffer.specs.declared.call.Call.TheVariants.{Play, Hand as MakeHand, GiveBack, Take, Finish, Squash, Measure}
use Rattle.shared_buffer.specs.declared.call.Reply.{Reply}
use Rattle.shared_buffer.specs.declared.call.Reply.TheVariants.{Played, Spent, Hand, NoHand, Taken, Finished, Squashed, Measured, Done}
use Rattle.shared_buffer.specs.Entries.{Shared, Entry, called, handed, given_back, taken, finished, squashed, shaped, next}

-- the seat of the hand that a reply has
abbrev pub given : Reply → Option (TableId × View Entry Shared)
given (Played r) = None
given Spent = None
given (Hand h k) = seat_in h.table_id h.views
given NoHand = None
given (Taken t) = None
given (Finished text count) = None
given (Squashed depth) = None
given (Measured shape) = None
given Done = None

abbrev pub reply_in : Reply → Option machine_reply.Reply
reply_in (Played r) = Some r
reply_in Spent = None
reply_in (Hand h k) = None
reply_in NoHand = None
reply_in (Taken t) = None
reply_in (Finished text count) = None
reply_in (Squashed depth) = None
reply_in (Measured shape) = None
reply_in Done = None

abbrev pub hand_number : Reply → Option ℕ
hand_number (Played r) = None
hand_number Spent = None
hand_number (Hand h k) = Some k
hand_number NoHand = None
hand_number (Taken t) = None
hand_number (Finished text count) = None
hand_number (Squashed depth) = None
hand_number (Measured shape) = None
hand_number Done = None

-- the text and the count in a reply
abbrev pub ending : Reply → List ℕ × ℕ
ending (Played r) = ([], 0)
ending Spent = ([], 0)
ending (Hand h k) = ([], 0)
ending NoHand = ([], 0)
ending (Taken t) = ([], 0)
ending (Finished text count) = (text, count)
ending (Squashed depth) = ([], 0)
ending (Measured shape) = ([], 0)
ending Done = ([], 0)

-- the text and the version in a reply
abbrev pub showing : Reply → List ℕ × ℕ
showing (Played r) = ([], 0)
showing Spent = ([], 0)
showing (Hand h k) = ([], 0)
showing NoHand = ([], 0)
showing (Taken t) = (t.reader.text, t.version)
showing (Finished text count) = ([], 0)
showing (Squashed depth) = ([], 0)
showing (Measured shape) = ([], 0)
showing Done = ([], 0)

-- how many layers there are, in a reply
abbrev pub depth_in : Reply → ℕ
depth_in (Played r) = 0
depth_in Spent = 0
depth_in (Hand h k) = 0
depth_in NoHand = 0
depth_in (Taken t) = 0
depth_in (Finished text count) = 0
depth_in (Squashed depth) = depth
depth_in (Measured shape) = 0
depth_in Done = 0

-- the sizes of layers in a reply
abbrev pub sizes_in : Reply → List LayerSize
sizes_in (Played r) = []
sizes_in Spent = []
sizes_in (Hand h k) = []
sizes_in NoHand = []
sizes_in (Taken t) = []
sizes_in (Finished text count) = []
sizes_in (Squashed depth) = []
sizes_in (Measured shape) = shape
sizes_in Done = []

abbrev pub told : Call → Reply → Entry
told (Play c) r = called c.command (reply_in r)
told MakeHand r = handed (hand_number r)
told (GiveBack n) r = given_back n
told (Take n) r = taken (showing r).0 (showing r).1
told Finish r = finished (ending r).0 (ending r).1
told Squash r = squashed (depth_in r)
told Measure r = shaped (sizes_in r)

pub by_call : (version : ℕ) (x : Shared) (c : Call) (r s : Reply) → next version x (told c r) ≡ next version x (told c s)
by_call version x (Play c) r s = refl
by_call version x MakeHand r s = refl
by_call version x (GiveBack n) r s = refl
by_call version x (Take n) r s = refl
by_call version x Finish r s = refl
by_call version x Squash r s = refl
by_call version x Measure r s = refl

-- the hand number that a call gives back
abbrev pub back : Call → Option ℕ
back (Play c) = None
back MakeHand = None
back (GiveBack n) = Some n
back (Take n) = None
back Finish = None
back Squash = None
back Measure = None

-- whether a call takes no memory
abbrev pub is_free : Call → Bool
is_free (Play c) = false
is_free MakeHand = false
is_free (GiveBack n) = true
is_free (Take n) = false
is_free Finish = false
is_free Squash = false
is_free Measure = false
