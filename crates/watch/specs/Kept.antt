-- What is true of an attached watcher, and of what a table of them has.
use Rattle.std.specs.Prelude.{◌≡◌, ℕ, ◌+◌, ◌^◌, ◌≤◌, List, ◌++◌, length, Option, option_map, OnSome}
use Rattle.watch.specs.declared.watcher.Heard.{Heard}

-- it heard, since it was attached, what it was told: where it tells what it heard, this is what it had heard before, and then that
pub record IsKept (count : ℕ) (list : Option (List Heard)) (count_before : ℕ) (list_before : Option (List Heard)) (told : ℕ) (log : List Heard) : Type 0 where
  pub counted : count ≡ count_before + told
  pub few : count_before ≤ 2 ^ 63
  pub long : told ≡ length log
  pub listed : OnSome list (list ≡ option_map (λ heard. heard ++ log) list_before)
