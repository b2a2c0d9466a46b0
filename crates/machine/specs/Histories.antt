-- Histories: what several callers did with one plain machine, in one order.
use Rattle.std.specs.Prelude.{◌≡◌, ℕ, ◌+◌, ◌-◌, ◌<◌, ◌≤◌, ◌==◌, nat_lt, List, [], ◌∷◌, ◌++◌, length, map, Bool, true, Option, if◌then◌else◌}
use Rattle.std.specs.List.{AllByRecursion}
use Rattle.points.specs.declared.limits.TheConstants.{MAX_HANDS}
use Rattle.points.specs.Text.{text_of}
use Rattle.machine.specs.declared.command.Command.{Command}
use Rattle.machine.specs.declared.command.Script.{Script}
use Rattle.machine.specs.declared.reply.Reply.{Reply}
use Rattle.machine.specs.declared.reply.Transcript.{Transcript}
use Rattle.machine.specs.Machine.{State, opened, Call, Answer, step}
use Rattle.machine.specs.Answers.{Matches, reply_of}
use Rattle.machine.specs.Lawful.{Entry, session_entries, sessions_have_forms, IsAsked, Taking, all_takings}

-- the plain machine, and how many hands are out beside it
pub record Shared : Type 0 where
  pub plain : State
  pub hands : ℕ

-- what a caller did: a numbered call with its answer, a hand that was asked for and given or not, or a hand given back
pub data Event : Type 0 where
  called : ℕ → Call → Answer → Event
  hand : ℕ → Bool → Event
  hand_back : ℕ → Event

-- the state behind an event; no hand is given where as many are out as there may be
abbrev pub after_event : Shared → Event → Shared
after_event s (called caller call answer) = record s { plain = (step s.plain call).0 }
after_event s (hand caller given) = record s { hands = if nat_lt s.hands MAX_HANDS then s.hands + 1 else s.hands }
after_event s (hand_back caller) = record s { hands = s.hands - 1 }

-- the event answers as the machine does
abbrev pub IsRight : Shared → Event → Type 0
IsRight s (called caller call answer) = answer ≡ (step s.plain call).1
IsRight s (hand caller given) = given ≡ nat_lt s.hands MAX_HANDS
IsRight s (hand_back caller) = 0 < s.hands

-- a legal history: each answer is that of the machine in its turn
abbrev pub IsLegal : Shared → List Event → Type 0
IsLegal s [] = Unit {0}
IsLegal s (e ∷ es) = IsRight s e × IsLegal (after_event s e) es

abbrev pub after_events : Shared → List Event → Shared
after_events s [] = s
after_events s (e ∷ es) = after_events (after_event s e) es

-- the state in which a text is opened, with so many hands out
abbrev pub opened_shared : List ℕ → ℕ → Shared
opened_shared opening hands = record { plain = opened opening; hands = hands }

-- the numbered calls of a history with their callers; n calls were numbered before
abbrev pub numbered_from : ℕ → ℕ → List Event → List (ℕ × Entry)
numbered_from version n [] = []
numbered_from version n (called caller call answer ∷ es) = (caller, record { call = call; at = n + 1; reply = reply_of version (n + 1) answer }) ∷ numbered_from version (n + 1) es
numbered_from version n (hand caller given ∷ es) = numbered_from version n es
numbered_from version n (hand_back caller ∷ es) = numbered_from version n es

-- those of one caller
abbrev pub own_first : Bool → Entry → List Entry → List Entry
own_first b e es = if b then e ∷ es else es

abbrev pub own : ℕ → List (ℕ × Entry) → List Entry
own k [] = []
own k (x ∷ xs) = own_first (x.0 == k) x.1 (own k xs)

-- each session from session k on has the calls of its caller
abbrev pub AreOwn : List (ℕ × Entry) → ℕ → List (List Command) → List (List Reply) → Type 0
AreOwn xs k [] rest = Unit {0}
AreOwn xs k (cs ∷ others) [] = Unit {0}
AreOwn xs k (cs ∷ others) (rs ∷ rest) = (session_entries cs rs ≡ own k xs) × AreOwn xs (k + 1) others rest

-- the caller of a numbered call is one of n sessions, counted from 1
abbrev pub IsSession : ℕ → ℕ × Entry → Type 0
IsSession n x = (0 < x.0) × (x.0 ≤ n)

abbrev pub number_in : Entry → ℕ
number_in e = e.at

-- A take of session k has a front: the history up to the moment whose text it shows. The session's own calls in it are those
-- before the take.
pub record HasFront (version : ℕ) (s : Shared) (history : List Event) (k : ℕ) (t : Taking) : Type 0 where
  pub front : List Event
  pub behind : List Event
  pub is_front : history ≡ front ++ behind
  pub earlier : map number_in (own k (numbered_from version 0 front)) ≡ t.earlier
  pub shown : t.version ≡ (after_events s front).plain.version
  pub answers : AllByRecursion (IsAsked (after_events s front).plain.text) t.asked

-- a transcript that writes a legal history down
pub record IsWritten (script : Script) (opening : List ℕ) (hands : ℕ) (told : List (Option Matches)) (history : List Event) (t : Transcript) : Type 0 where
  pub legal : IsLegal (opened_shared opening hands) history
  pub callers : AllByRecursion (IsSession (length script.sessions)) (numbered_from script.version 0 history)
  pub version : t.version ≡ script.version
  pub forms : sessions_have_forms script.version script.sessions t.sessions ≡ true
  pub owned : AreOwn (numbered_from script.version 0 history) 1 script.sessions t.sessions
  pub fronts : AllByRecursion (λ x. HasFront script.version (opened_shared opening hands) history x.0 x.1) (all_takings told 1 script.sessions t.sessions)
  pub count : t.end.count ≡ (after_events (opened_shared opening hands) history).plain.count
  pub text : t.end.text ≡ text_of (after_events (opened_shared opening hands) history).plain.text
