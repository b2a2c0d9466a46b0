-- What sessions send, and what is done of it.
use Rattle.std.specs.Prelude.{◌≡◌, ℕ, ◌+◌, ◌*◌, ◌^◌, ◌<◌, ◌≤◌, ◌++◌, List, [], ◌∷◌, length, Bool, true, false, Option, is_none, IfSome, ⊤}
use Rattle.std.specs.List.{AllByRecursion}
use Rattle.atomic_table.specs.Seated.{TableId}
use Rattle.crossbeam_queue.specs.Fifo.{Held}
use Rattle.outer.specs.Matcher.{ToldHits}
use Rattle.workers.specs.Tasks.{Request}
use Rattle.workers.specs.Entries.{IsDone}
use Rattle.workers.specs.declared.done.Done.{Done}
use Rattle.pool.specs.declared.noted.Noted.{Noted}

-- A task that a session sent. It was run here where the session had the snapshot's hand back at once
pub record Sending (M K : Type 0) : Type 0 where
  pub task : Request M K
  pub here : Bool

-- What contracts see of a port: what its session sent, in order, how much it may send, whether there are workers, and which queue it sends to
pub record Sendings (M K : Type 0) : Type 0 where
  pub sent : List (Sending M K)
  pub most : ℕ
  pub helped : Bool
  pub queue : TableId

module _ {X : Type 0} (key : X → ℕ) where
  -- each key is below all later ones
  abbrev pub IsRising : List X → Type 0
  IsRising [] = Unit {0}
  IsRising (x ∷ xs) = AllByRecursion (λ y. key x < key y) xs × IsRising xs

-- how many tasks can wait in the queue
abbrev pub PLACES : ℕ
PLACES = 64

module _ {M K : Type 0} where
  -- a task that was put in the queue, and one that was run by its session
  abbrev pub queued : Request M K → Sending M K
  queued task = record { task = task; here = false }

  abbrev pub run_here : Request M K → Sending M K
  run_here task = record { task = task; here = true }

  abbrev pub noted : Noted M K → Sending M K
  noted n = record { task = n.task.value; here = n.here }

  -- a port through which these tasks more were sent
  abbrev pub then_sent : Sendings M K → List (Sending M K) → Sendings M K
  then_sent p tasks = record { sent = p.sent ++ tasks; most = p.most; helped = p.helped; queue = p.queue }

  -- the number of a task and that of its session
  abbrev pub number_of : Sending M K → ℕ
  number_of s = s.task.number

  abbrev pub session_of : Sending M K → ℕ
  session_of s = s.task.session

  -- the order of tasks: by session, and in a session by number
  abbrev pub order : Sending M K → ℕ
  order s = session_of s * 2 ^ 32 + number_of s

  -- what a session with this number sent: at most so many tasks, all under its number, and their own numbers rise
  pub record AreOfSession (session most : ℕ) (sent : List (Sending M K)) : Type 0 where
    pub few : length sent ≤ most
    pub own : AllByRecursion (λ s. session_of s ≡ session) sent
    pub rising : IsRising number_of sent

  -- what a task that is done was sent as
  abbrev pub sending_of : Done M K → Sending M K
  sending_of d = record { task = d.task.value; here = is_none d.hand }

-- at one moment of the call every place of the queue was taken
abbrev pub WasFull : Type 0 → Type 0 → Type 0
WasFull M K = Held {T = Request M K} PLACES (λ items. ⊤)

module _ {M K : Type 0} (tells : M → Option ToldHits) (taken : K → Option (List ℕ)) (faults : K → ℕ) where
  -- it has right answers on the text of its task's taking, and no other hand than that of its task's snapshot
  pub record IsEnded (d : Done M K) : Type 0 where
    pub done : IsDone tells taken faults d
    pub hand : IfSome d.hand (λ h. h ≡ d.task.value.front.hand)
