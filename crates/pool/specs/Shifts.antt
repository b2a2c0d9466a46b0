-- What one thread did.
use Rattle.std.specs.Prelude.{◌≡◌, ℕ, List, [], ◌++◌, map, Option, All, IsPermutation}
use Rattle.crossbeam_queue.specs.declared.array_queue.Doing.{Doing}
use Rattle.crossbeam_queue.specs.declared.array_queue.Slotted.{Slotted}
use Rattle.crossbeam_queue.specs.Passes.{Pass, view, IsPassOf}
use Rattle.handover.specs.declared.rule.Share.{Share}
use Rattle.outer.specs.Matcher.{ToldHits}
use Rattle.workers.specs.Tasks.{Request}
use Rattle.workers.specs.declared.done.Done.{Done}
use Rattle.pool.specs.Sendings.{Sending, queued, sending_of, IsEnded}

module _ {T Q A : Type 0} where
  -- an account of this queue, with one part
  pub record IsAccountOf (q : Slotted (Option T) (Doing T (Share T)) Q A) (a : Pass T (Share T)) : Type 0 where
    pub queue : IsPassOf q a
    pub part : (view a).parts ≡ 1

module _ {M K : Type 0} (tells : M → Option ToldHits) (taken : K → Option (List ℕ)) (faults : K → ℕ) where
  -- what a session's thread did: each task that was sent was put in the queue or run, once
  pub record HasSent (share : Share (Request M K)) (sent : List (Sending M K)) (dones : List (Done M K)) : Type 0 where
    pub none : share.taken ≡ []
    pub once : IsPermutation sent (map queued share.put ++ map sending_of dones)
    pub ended : All (IsEnded tells taken faults) dones

  -- what was run of what was taken: all of it, in order
  pub record HasHelped (share : Share (Request M K)) (dones : List (Done M K)) : Type 0 where
    pub once : map sending_of dones ≡ map queued share.taken
    pub ended : All (IsEnded tells taken faults) dones
