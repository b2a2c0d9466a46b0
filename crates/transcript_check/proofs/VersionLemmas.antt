-- The versions behind the calls of a transcript that agree with the plain machine.
use Rattle.std.proofs.Common.{◌≡◌, ℕ, zero, suc, ◌+◌, ◌≤◌, List, length, Option, Some, None, refl, subst, arith, add-one}
use Rattle.machine.specs.Machine.{State, opened}
use Rattle.machine.specs.Lawful.{Entry, numbered, state_after, after_entry, IsReplyAt, CallsAgree}
use Rattle.machine.specs.Laws.{IsNumbered}
use Rattle.machine.proofs.StepLemmas.{step_numbers}
use Rattle.machine.proofs.History.{IsVersion, version_at_start, next_version}

-- what is known of the state behind the first m calls
pub record IsKnown (opening : List ℕ) (es : List Entry) (m : ℕ) : Type 0 where
  pub count : (state_after (opened opening) es m).count ≡ m
  pub shows : IsVersion (opened opening) es m (state_after (opened opening) es m)

stepped : (version n : ℕ) (s : State) (o : Option Entry) → IsReplyAt version n s o → IsNumbered s (after_entry s o)
stepped version n s None is = absurd is
stepped version n s (Some e) is = step_numbers s e.call

pub known : (version : ℕ) (opening : List ℕ) (es : List Entry) → CallsAgree version (opened opening) es → (m : ℕ) → m ≤ length es → IsKnown opening es m
known version opening es agree zero h = record { count = refl; shows = version_at_start opening es }
known version opening es agree (suc m) h =
    let before : IsKnown opening es m = known version opening es agree m (omega (arith, h)) in
    let s : State = state_after (opened opening) es m in
    let same : m + 1 ≡ suc m = add-one m in
    let reply : IsReplyAt version (suc m) s (numbered es (suc m)) = subst (λ (k : ℕ). IsReplyAt version k s (numbered es k)) same (agree m (omega (arith, h))) in
    let on : IsNumbered s (state_after (opened opening) es (suc m)) = stepped version (suc m) s (numbered es (suc m)) reply in
    record {
      count = omega (arith, on.count, before.count);
      shows = next_version (opened opening) es m s (state_after (opened opening) es (suc m)) before.shows before.count h refl on;
    }
