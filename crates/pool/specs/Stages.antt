-- What threads begin with and what they leave.
use Rattle.std.specs.Prelude.{◌≡◌, ℕ, ◌≤◌, List, [], ◌∷◌, ◌++◌, map, Option, None, Some, MatchOption, IfSome, All, IsPermutation, vec_capacity}
use Rattle.crossbeam_queue.specs.declared.array_queue.Doing.{Doing}
use Rattle.crossbeam_queue.specs.declared.array_queue.Slotted.{Slotted}
use Rattle.crossbeam_queue.specs.Passes.{view, ruled_capacity}
use Rattle.handover.specs.declared.rule.Share.{Share}
use Rattle.handover.specs.Accounts.{share}
use Rattle.outer.specs.Matcher.{ToldHits}
use Rattle.shared_buffer.specs.Tokens.{Opening}
use Rattle.workers.specs.Tasks.{Request}
use Rattle.pool.specs.Sendings.{Sending, PLACES, queued, sending_of, AreOfSession, IsEnded}
use Rattle.pool.specs.Shifts.{IsAccountOf, HasHelped}
use Rattle.pool.specs.declared.stage.Ready.{Ready}
use Rattle.pool.specs.declared.stage.Left.{Left}
use Rattle.pool.specs.declared.stage.Stage.{Stage}

module _ {S T M K : Type 0} where
  -- it is still to be run, and this is true of what it begins with
  abbrev pub IsStage : (Ready S M K → Type 0) → Stage S T M K → Type 0
  IsStage P s = MatchOption s.ready ⊥ P

  -- it was run, and this is true of its session and of what it left
  abbrev pub IsPlayed : (Option S → Left T M K → Type 0) → Option S → Stage S T M K → Type 0
  IsPlayed P s t = MatchOption t.left ⊥ (P s)

  -- the same of a thread that was still to be run before
  abbrev pub WasPlayed : (Option S → Left T M K → Type 0) → Stage S T M K → Stage S T M K → Type 0
  WasPlayed P before after = MatchOption before.ready ⊥ (λ r. IsPlayed P r.session after)

  -- the same of many threads, with the sessions of these
  abbrev pub AllPlayed : (Option S → Left T M K → Type 0) → List (Option S) → List (Stage S T M K) → Type 0
  AllPlayed P [] [] = Unit {0}
  AllPlayed P [] (t ∷ ts) = ⊥
  AllPlayed P (s ∷ ss) [] = ⊥
  AllPlayed P (s ∷ ss) (t ∷ ts) = IsPlayed P s t × AllPlayed P ss ts

  -- the sessions of threads that are to be run
  abbrev pub AreOf : List (Option S) → List (Stage S T M K) → Type 0
  AreOf [] [] = Unit {0}
  AreOf [] (t ∷ ts) = ⊥
  AreOf (s ∷ ss) [] = ⊥
  AreOf (s ∷ ss) (t ∷ ts) = IsStage (λ r. r.session ≡ s) t × AreOf ss ts

module _ {S M K Q A : Type 0} (limit : S → ℕ) (is_of : S → Opening → Type 0) (q : Slotted (Option (Request M K)) (Doing (Request M K) (Share (Request M K))) Q A) (o : Opening) where
  -- nothing was done yet, and there is room for all that its session may send
  pub record CanRun (r : Ready S M K) : Type 0 where
    pub places : ruled_capacity q ≡ PLACES
    pub account : IsAccountOf q r.account
    pub fresh : view r.account ≡ share 1 [] []
    pub empty : (r.noted.items ≡ []) × (r.room.items ≡ [])
    pub session : IfSome r.session (λ s. is_of s o × (limit s ≤ vec_capacity r.noted) × (limit s ≤ vec_capacity r.room))

-- the tasks that a session sent, where there was one
abbrev pub sent_in : {T M K : Type 0} → (T → List (Sending M K)) → Option T → List (Sending M K)
sent_in sent None = []
sent_in sent (Some out) = sent out

module _ {T M K Q A : Type 0} (tells : M → Option ToldHits) (taken : K → Option (List ℕ)) (faults : K → ℕ) (sent : T → List (Sending M K)) (q : Slotted (Option (Request M K)) (Doing (Request M K) (Share (Request M K))) Q A) where
  -- each task that was sent was put in the queue or run, once, and each that was taken was run
  pub record HasLeft (l : Left T M K) : Type 0 where
    pub account : IsAccountOf q l.account
    pub once : IsPermutation (sent_in sent l.out) (map queued (view l.account).put ++ map sending_of l.here.items)
    pub here : All (IsEnded tells taken faults) l.here.items
    pub helped : HasHelped tells taken faults (view l.account) l.helped.items

module _ {S T M K : Type 0} (number limit : S → ℕ) (leaves : S → Opening → T → Type 0) (sent : T → List (Sending M K)) (o : Opening) where
  -- a session may leave this, and sent what it may
  pub record HasRun (s : S) (out : T) : Type 0 where
    pub left : leaves s o out
    pub tasks : AreOfSession (number s) (limit s) (sent out)

module _ {S T M K Q A : Type 0} (tells : M → Option ToldHits) (taken : K → Option (List ℕ)) (faults : K → ℕ) (number limit : S → ℕ) (leaves : S → Opening → T → Type 0) (sent : T → List (Sending M K)) (q : Slotted (Option (Request M K)) (Doing (Request M K) (Share (Request M K))) Q A) (o : Opening) where
  -- what a thread left, and of which session
  pub record WasRun (session : Option S) (l : Left T M K) : Type 0 where
    pub left : HasLeft tells taken faults sent q l
    pub run : MatchOption session (l.out ≡ None) (λ s. MatchOption l.out ⊥ (HasRun number limit leaves sent o s))
