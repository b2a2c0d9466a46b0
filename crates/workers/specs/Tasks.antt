-- Tasks as they are sent.
use Rattle.std.specs.Prelude.{ℕ, List}
use Rattle.shared_buffer.specs.declared.snapshot.Snapshot.{Snapshot}
use Rattle.answers.specs.declared.read.Read.{Read}

-- A task: its session and its number, what it reads, and its snapshot, which has the text and the version of its taking
pub record Request (M K : Type 0) : Type 0 where
  pub session : ℕ
  pub number : ℕ
  pub reads : List (Read M K)
  pub front : Snapshot
