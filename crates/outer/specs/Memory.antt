-- What contracts see in the fakes in memory.
use Rattle.std.specs.Prelude.{ℕ, ◌+◌, List, ◌++◌, length, Option, Some, None, nat_le, if◌then◌else◌}
use Rattle.outer.specs.Plan.{Plan}

-- a source whose calls fail by a plan, with the bytes that it has left
pub record PlannedSource : Type 0 where
  pub left : List ℕ
  pub plan : Plan

-- bytes up to a room
pub record Stored : Type 0 where
  pub taken : List ℕ
  pub room : ℕ

-- a sink whose calls fail by a plan, with the bytes that it took and how many it takes at most
pub record PlannedSink : Type 0 where
  pub taken : List ℕ
  pub room : ℕ
  pub plan : Plan

-- a sink that takes all bytes, and tells them while they are within its room
pub record RoomySink : Type 0 where
  pub taken : Option (List ℕ)
  pub room : ℕ

-- what such a sink tells after it was put more bytes
abbrev pub within_room : ℕ → Option (List ℕ) → List ℕ → Option (List ℕ)
within_room room None bytes = None
within_room room (Some taken) bytes = if nat_le (length taken + length bytes) room then Some (taken ++ bytes) else None
