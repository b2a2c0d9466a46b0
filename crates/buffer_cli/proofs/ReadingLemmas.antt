-- Reads in a row, and what a loop that reads keeps.
use Rattle.std.proofs.Common.{◌≡◌, ℕ, ◌+◌, ◌≤◌, List, ◌++◌, length, length-append, Option, ◌^◌, ap, arith}
use Rattle.std.specs.Prelude.{Vec, Err}
use Rattle.std.specs.declared.alloc.Global.{Global}
use Rattle.outer.specs.Source.{Gives}
use Rattle.outer.proofs.Given.{Gives-append}
use Rattle.buffer_cli.specs.Input.{max_input, ReadsAs, ReadsMore}
use Rattle.buffer_cli.specs.declared.input.InputFault.{InputFault}
use Rattle.buffer_cli.specs.declared.input.InputFault.TheVariants.{Failed, TooLong, NoMemory}

-- what was read so far, from the first state of the source to the present one
pub record ReadsSoFar (bytes : List ℕ) (room : ℕ) (first now : Option (List ℕ)) (faults_first faults_now : ℕ) : Type 0 where
  pub bounded : length bytes ≤ max_input + 1
  pub room_is : room ≡ 2 ^ 16
  pub gives : Gives bytes first now
  pub count : faults_first ≤ faults_now

-- a read that stopped: what was read before it, and in it
pub reads_stopped : (fault : InputFault) (room : ℕ) (old new : Vec ℕ Global) (more : List ℕ) (first middle last : Option (List ℕ)) → length old.items ≤ max_input → length old.items + room ≤ max_input + 1 → Gives old.items first middle → Gives more middle last → ReadsMore (Err fault) room old new more middle → (x : List ℕ) × Gives x first last × ReadsAs (Err fault) x last
reads_stopped Failed room old new more first middle last h k g m r =
    (old.items ++ more, Gives-append _ _ _ _ _ g m, omega (arith, length-append old.items more, ap length r))
reads_stopped TooLong room old new more first middle last h k g m r = absurd r
reads_stopped NoMemory room old new more first middle last h k g m r =
    (old.items ++ more, Gives-append _ _ _ _ _ g m, omega (arith, length-append old.items more))
