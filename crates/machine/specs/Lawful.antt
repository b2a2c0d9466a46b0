-- Which transcripts of a script are lawful: those of a plain string.
use Rattle.std.specs.Prelude.{◌≡◌, ℕ, zero, suc, ◌+◌, ◌<◌, ◌≤◌, ◌==◌, ◌&&◌, ◌||◌, ◌⊎◌, List, [], ◌∷◌, ◌++◌, length, map, drop, find, sum_by, count_by, Bool, true, false, if◌then◌else◌, Option, Some, None}
use Rattle.std.specs.List.Sorted.{IsStrictlyIncreasing}
use Rattle.std.specs.List.{AllByRecursion}
use Rattle.points.specs.Text.{text_of}
use Rattle.machine.specs.declared.command.Command.{Command}
use Rattle.machine.specs.declared.command.Command.TheVariants as command
use Rattle.machine.specs.declared.command.Script.{Script}
use Rattle.machine.specs.declared.reads.Read.{Read}
use Rattle.machine.specs.declared.reads.Read.TheVariants as read
use Rattle.machine.specs.declared.reads.ReadAnswer.{ReadAnswer}
use Rattle.machine.specs.declared.reads.ReadAnswer.TheVariants as answer
use Rattle.machine.specs.declared.reply.CallRefusal.{CallRefusal}
use Rattle.machine.specs.declared.reply.CallRefusal.TheVariants as no
use Rattle.machine.specs.declared.reply.Reply.{Reply}
use Rattle.machine.specs.declared.reply.Reply.TheVariants as reply
use Rattle.machine.specs.declared.reply.Transcript.{Transcript}
use Rattle.machine.specs.Machine.{State, opened, Call, step}
use Rattle.machine.specs.Answers.{call_of, number_of, reply_of, Matches, read_answer}

-- the forms of replies
abbrev pub is_edited : Reply → Bool
is_edited (reply.Edited at end from hits to) = true
is_edited _ = false

abbrev pub is_batched : Reply → Bool
is_batched (reply.Batched at edits) = true
is_batched _ = false

-- as many members as the batch has edits
abbrev pub is_batch_of : ℕ → Reply → Bool
is_batch_of n (reply.Batched at edits) = length edits == n
is_batch_of n _ = false

abbrev pub is_text : Reply → Bool
is_text (reply.Text at text units) = true
is_text _ = false

abbrev pub is_numbered : Reply → Bool
is_numbered (reply.Numbered at) = true
is_numbered _ = false

abbrev pub is_range : Reply → Bool
is_range (reply.Range at exclusive range) = true
is_range _ = false

abbrev pub is_marks : Reply → Bool
is_marks (reply.Marks at ids) = true
is_marks _ = false

abbrev pub is_order : Reply → Bool
is_order (reply.Order at order) = true
is_order _ = false

abbrev pub is_heard : Reply → Bool
is_heard (reply.Heard at heard) = true
is_heard _ = false

abbrev pub is_taken : Reply → Bool
is_taken (reply.Taken version) = true
is_taken _ = false

abbrev pub is_nothing : Reply → Bool
is_nothing reply.Nothing = true
is_nothing _ = false

-- the refusals that a command can have
abbrev pub refuses : (CallRefusal → Bool) → Reply → Bool
refuses can (reply.Refused at why) = can why
refuses can _ = false

abbrev pub is_too_long : CallRefusal → Bool
is_too_long no.TooLong = true
is_too_long _ = false

abbrev pub is_nothing_there : CallRefusal → Bool
is_nothing_there no.Nothing = true
is_nothing_there _ = false

abbrev pub is_mark_refused : CallRefusal → Bool
is_mark_refused no.MarkTaken = true
is_mark_refused no.MarksFull = true
is_mark_refused _ = false

abbrev pub is_mark_unknown : CallRefusal → Bool
is_mark_unknown no.MarkUnknown = true
is_mark_unknown _ = false

abbrev pub is_watch_refused : CallRefusal → Bool
is_watch_refused no.WatchTaken = true
is_watch_refused no.WatchFull = true
is_watch_refused _ = false

abbrev pub is_watch_unknown : CallRefusal → Bool
is_watch_unknown no.WatchUnknown = true
is_watch_unknown _ = false

-- an answer has the form of its read
abbrev pub answer_has_form : Read → ReadAnswer → Bool
answer_has_form read.Size (answer.Size extent units) = true
answer_has_form (read.Text range limit) (answer.Text text units) = true
answer_has_form (read.Find needle limit) (answer.Found count hits) = true
answer_has_form (read.Pattern pattern limit) (answer.Found count hits) = true
answer_has_form (read.Save name encoding) (answer.Saved bytes) = true
answer_has_form _ _ = false

abbrev pub answers_have_forms : List Read → List ReadAnswer → Bool
answers_have_forms [] [] = true
answers_have_forms [] (a ∷ rest) = false
answers_have_forms (r ∷ rs) [] = false
answers_have_forms (r ∷ rs) (a ∷ rest) = answer_has_form r a && answers_have_forms rs rest

-- one answer per read, of that read's form
abbrev pub is_answer_to : List Read → Reply → Bool
is_answer_to reads (reply.Answered answers) = answers_have_forms reads answers
is_answer_to reads _ = false

-- a change under one number that need not be an edit's: in version 1 in the form of an edit's reply, else as a list
abbrev pub is_change : ℕ → Reply → Bool
is_change version r = if version == 1 then is_edited r else is_batched r

-- several edits under one number, in the same way
abbrev pub is_batch : ℕ → ℕ → Reply → Bool
is_batch version n r = if version == 1 then is_edited r else is_batch_of n r

-- a reply has one of the forms that its command can have, in a transcript of this version
abbrev pub has_form : ℕ → Command → Reply → Bool
has_form version (command.Edit range new) r = is_edited r || refuses is_too_long r
has_form version (command.Batch edits) r = is_batch version (length edits) r || refuses is_too_long r
has_form version command.Undo r = is_change version r || refuses is_nothing_there r
has_form version command.Redo r = is_change version r || refuses is_nothing_there r
has_form version (command.Text range limit) r = is_text r
has_form version (command.Mark id range exclusive) r = is_numbered r || refuses is_mark_refused r
has_form version (command.Unmark id) r = is_numbered r || refuses is_mark_unknown r
has_form version (command.Exclusive id value) r = is_numbered r || refuses is_mark_unknown r
has_form version (command.Range id) r = is_range r || refuses is_mark_unknown r
has_form version (command.Marks how range) r = is_marks r
has_form version (command.Compare a b) r = is_order r || refuses is_mark_unknown r
has_form version (command.Watch id) r = is_numbered r || refuses is_watch_refused r
has_form version (command.Unwatch id) r = is_heard r || refuses is_watch_unknown r
has_form version (command.Take snapshot) r = is_taken r
has_form version (command.Read snapshot reads) r = is_answer_to reads r
has_form version (command.Send snapshot reads) r = is_answer_to reads r
has_form version (command.Release snapshot) r = is_nothing r
has_form version command.Squash r = is_nothing r

-- one reply per command, of that command's form
abbrev pub have_forms : ℕ → List Command → List Reply → Bool
have_forms version [] [] = true
have_forms version [] (r ∷ rs) = false
have_forms version (c ∷ cs) [] = false
have_forms version (c ∷ cs) (r ∷ rs) = has_form version c r && have_forms version cs rs

-- one list of replies per session
abbrev pub sessions_have_forms : ℕ → List (List Command) → List (List Reply) → Bool
sessions_have_forms version [] [] = true
sessions_have_forms version [] (rs ∷ rest) = false
sessions_have_forms version (cs ∷ others) [] = false
sessions_have_forms version (cs ∷ others) (rs ∷ rest) = have_forms version cs rs && sessions_have_forms version others rest

-- a numbered call with its number and its reply
pub record Entry : Type 0 where
  pub call : Call
  pub at : ℕ
  pub reply : Reply

abbrev pub with_entry : Option Call → Option ℕ → Reply → List Entry → List Entry
with_entry None n r es = es
with_entry (Some call) None r es = es
with_entry (Some call) (Some n) r es = record { call = call; at = n; reply = r } ∷ es

-- the numbered calls of a session, and of all sessions in script order
abbrev pub session_entries : List Command → List Reply → List Entry
session_entries [] rs = []
session_entries (c ∷ cs) [] = []
session_entries (c ∷ cs) (r ∷ rs) = with_entry (call_of c) (number_of r) r (session_entries cs rs)

abbrev pub entries : List (List Command) → List (List Reply) → List Entry
entries [] rest = []
entries (cs ∷ others) [] = []
entries (cs ∷ others) (rs ∷ rest) = session_entries cs rs ++ entries others rest

abbrev pub with_number : Option ℕ → List ℕ → List ℕ
with_number None ns = ns
with_number (Some n) ns = n ∷ ns

-- the numbers of a session's replies
abbrev pub numbers : List Reply → List ℕ
numbers [] = []
numbers (r ∷ rs) = with_number (number_of r) (numbers rs)

abbrev pub has_number : ℕ → Entry → Bool
has_number n e = e.at == n

-- the call with this number
abbrev pub numbered : List Entry → ℕ → Option Entry
numbered es n = find (has_number n) es

abbrev pub after_entry : State → Option Entry → State
after_entry s None = s
after_entry s (Some e) = (step s e.call).0

-- the state of the plain machine after calls 1 to n
abbrev pub state_after : State → List Entry → ℕ → State
state_after s es zero = s
state_after s es (suc n) = after_entry (state_after s es n) (numbered es (suc n))

-- there is such a call, and its reply is the plain machine's
abbrev pub IsReplyAt : ℕ → ℕ → State → Option Entry → Type 0
IsReplyAt version n s None = ⊥
IsReplyAt version n s (Some e) = e.reply ≡ reply_of version n (step s e.call).1

-- a read of a snapshot with its answer, and the hits that are told of its pattern
pub record Asked : Type 0 where
  pub told : Option Matches
  pub read : Read
  pub answer : ReadAnswer

-- what is told of the next pattern, and of those behind it
abbrev pub next_told : List (Option Matches) → Option Matches
next_told [] = None
next_told (m ∷ told) = m

-- how many patterns are among these reads
abbrev pub is_pattern : Read → Bool
is_pattern (read.Pattern pattern limit) = true
is_pattern _ = false

-- the told hits behind a read
abbrev pub told_after : Read → List (Option Matches) → List (Option Matches)
told_after r told = if is_pattern r then drop 1 told else told

-- reads with their answers, each pattern with the hits that are told of it
abbrev pub asked_in : List (Option Matches) → List Read → List ReadAnswer → List Asked
asked_in told [] answers = []
asked_in told (r ∷ rs) [] = []
asked_in told (r ∷ rs) (a ∷ rest) = record { told = next_told told; read = r; answer = a } ∷ asked_in (told_after r told) rs rest

-- the reads of a command, through any snapshot and through that of this number
abbrev pub reads_in : Command → List Read
reads_in (command.Read snapshot reads) = reads
reads_in (command.Send snapshot reads) = reads
reads_in _ = []

abbrev pub is_through : ℕ → Command → Bool
is_through k (command.Read snapshot reads) = snapshot == k
is_through k (command.Send snapshot reads) = snapshot == k
is_through k _ = false

abbrev pub reads_of : ℕ → Command → List Read
reads_of k c = if is_through k c then reads_in c else []

-- the command ends the number of a snapshot, or takes it anew
abbrev pub ends : ℕ → Command → Bool
ends k (command.Send snapshot reads) = snapshot == k
ends k (command.Release snapshot) = snapshot == k
ends k (command.Take snapshot) = snapshot == k
ends k _ = false

abbrev pub answers_in : Reply → List ReadAnswer
answers_in (reply.Answered answers) = answers
answers_in _ = []

-- how many patterns a command reads
abbrev pub patterns_in : Command → ℕ
patterns_in c = count_by is_pattern (reads_in c)

-- the reads through snapshot k of the commands behind its take, as long as its number is live
abbrev pub asked_of : ℕ → List (Option Matches) → List Command → List Reply → List Asked
asked_of k told [] rs = []
asked_of k told (c ∷ cs) [] = []
asked_of k told (c ∷ cs) (r ∷ rs) =
    asked_in told (reads_of k c) (answers_in r) ++ (if ends k c then [] else asked_of k (drop (patterns_in c) told) cs rs)

-- a take: its place in the session, the version that it shows, the session's numbers before and behind it, and the reads
-- through it
pub record Taking : Type 0 where
  pub command : ℕ
  pub version : ℕ
  pub earlier : List ℕ
  pub later : List ℕ
  pub asked : List Asked

abbrev pub with_taking : Command → Reply → ℕ → List ℕ → List (Option Matches) → List Command → List Reply → List Taking → List Taking
with_taking (command.Take k) (reply.Taken v) i earlier told cs rs rest =
    record { command = i; version = v; earlier = earlier; later = numbers rs; asked = asked_of k told cs rs } ∷ rest
with_taking _ _ i earlier told cs rs rest = rest

-- the takes of a session from its command i on; `earlier` are the numbers before it, `told` the told hits of its patterns
abbrev pub takings : List (Option Matches) → ℕ → List ℕ → List Command → List Reply → List Taking
takings told i earlier [] rs = []
takings told i earlier (c ∷ cs) [] = []
takings told i earlier (c ∷ cs) (r ∷ rs) =
    let left = drop (patterns_in c) told in
    with_taking c r i earlier left cs rs (takings left (i + 1) (earlier ++ with_number (number_of r) []) cs rs)

-- how many patterns a session reads
abbrev pub patterns_of : List Command → ℕ
patterns_of cs = sum_by patterns_in cs

-- the takes of all sessions from session k on, each with its session. Sessions and commands are counted from 1.
abbrev pub all_takings : List (Option Matches) → ℕ → List (List Command) → List (List Reply) → List (ℕ × Taking)
all_takings told k [] rest = []
all_takings told k (cs ∷ others) [] = []
all_takings told k (cs ∷ others) (rs ∷ rest) =
    map (λ t. (k, t)) (takings told 1 [] cs rs) ++ all_takings (drop (patterns_of cs) told) (k + 1) others rest

-- call n changed the text
pub record IsChange (s : State) (es : List Entry) (n : ℕ) : Type 0 where
  pub first : 0 < n
  pub within : n ≤ length es
  pub changed : (state_after s es n).version ≡ n

-- the last of a list of numbers, or 0
abbrev pub last_number : List ℕ → ℕ
last_number [] = 0
last_number (n ∷ []) = n
last_number (n ∷ m ∷ ns) = last_number (m ∷ ns)

-- an answer through a snapshot of the text t is that of the definition, where there is one
abbrev pub AnswersAs : Option ReadAnswer → ReadAnswer → Type 0
AnswersAs None a = Unit {0}
AnswersAs (Some right) a = a ≡ right

abbrev pub IsAsked : List ℕ → Asked → Type 0
IsAsked t a = AnswersAs (read_answer t a.told a.read) a.answer

-- a take shows a version of the text that was the present one between the session's number before it and that behind it, and
-- its reads answer from that text
pub record IsTakingLawful (s : State) (es : List Entry) (t : Taking) : Type 0 where
  pub shown : (t.version ≡ 0) ⊎ IsChange s es t.version
  pub fresh : (n : ℕ) → t.version < n → n ≤ last_number t.earlier → IsChange s es n → ⊥
  pub below : AllByRecursion (λ n. t.version < n) t.later
  pub answers : AllByRecursion (IsAsked (state_after s es t.version).text) t.asked

-- Form: the version is the script's; each command has one reply of its form; the numbers are 1 to N, each once, and rise
-- within each session.
pub record HasForm (script : Script) (t : Transcript) : Type 0 where
  pub version : t.version ≡ script.version
  pub forms : sessions_have_forms script.version script.sessions t.sessions ≡ true
  pub once : (n : ℕ) → n < length (entries script.sessions t.sessions) → count_by (has_number (n + 1)) (entries script.sessions t.sessions) ≡ 1
  pub rising : AllByRecursion (λ rs. IsStrictlyIncreasing (numbers rs)) t.sessions

-- Call: the reply numbered n + 1 is that of the plain machine after calls 1 to n.
abbrev pub CallsAgree : ℕ → State → List Entry → Type 0
CallsAgree version s es = (n : ℕ) → n < length es → IsReplyAt version (n + 1) (state_after s es n) (numbered es (n + 1))

-- Snapshot: each take and each answer through it is lawful.
abbrev pub SnapshotsAgree : List (Option Matches) → State → List Entry → List (List Command) → List (List Reply) → Type 0
SnapshotsAgree told s es sessions replies = AllByRecursion (λ x. IsTakingLawful s es x.1) (all_takings told 1 sessions replies)

-- End: the count is N, and the text is the plain machine's.
pub record EndAgrees (s : State) (es : List Entry) (t : Transcript) : Type 0 where
  pub count : t.end.count ≡ length es
  pub text : t.end.text ≡ text_of (state_after s es (length es)).text

-- The transcript is lawful for the script, where it opens with these units and these hits are told of its patterns: one
-- entry per `pattern` read in script order, and none where nothing is told.
pub record IsLawful (script : Script) (opening : List ℕ) (told : List (Option Matches)) (t : Transcript) : Type 0 where
  pub form : HasForm script t
  pub call : CallsAgree script.version (opened opening) (entries script.sessions t.sessions)
  pub snapshot : SnapshotsAgree told (opened opening) (entries script.sessions t.sessions) script.sessions t.sessions
  pub end : EndAgrees (opened opening) (entries script.sessions t.sessions) t
