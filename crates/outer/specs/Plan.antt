-- Which calls of a fake fail.
use Rattle.std.specs.Prelude.{ℕ, ◌+◌, ◌==◌, Bool, if◌then◌else◌, List}
use Rattle.std.specs.List.{list_any}
use Rattle.outer.specs.Count.{counted}

-- the numbers, from 1, of the calls that fail; how many calls there were, and how many faults
pub record Plan : Type 0 where
  pub fails : List ℕ
  pub calls : ℕ
  pub faults : ℕ

abbrev pub plan_of : List ℕ → Plan
plan_of fails = record { fails = fails; calls = 0; faults = 0 }

-- the next call is to fail: its number is in the list
abbrev pub is_due : Plan → Bool
is_due p = list_any (λ n. n == p.calls + 1) p.fails

-- one more call
abbrev pub with_call : Plan → Plan
with_call p = record p { calls = counted p.calls }

-- one more fault
abbrev pub with_fault : Plan → Plan
with_fault p = record p { faults = counted p.faults }

-- after a call that failed, or one that didn't
abbrev pub after_call : Plan → Bool → Plan
after_call p failed = if failed then with_fault (with_call p) else with_call p
