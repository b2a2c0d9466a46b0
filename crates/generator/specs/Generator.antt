-- The script that is made from a number: what is drawn, the commands of a block, the sessions.
use Rattle.std.specs.Prelude.{ℕ, zero, suc, ◌+◌, ◌*◌, ◌%◌, ◌==◌, List, [], ◌∷◌, ◌++◌, codes, replicate, refl, if◌then◌else◌}
use Rattle.points.specs.declared.point.Point.{Point}
use Rattle.points.specs.declared.range.Range.{Range}
use Rattle.points.specs.Text.{LF}
use Rattle.machine.specs.declared.command.Command.{Command}
use Rattle.machine.specs.declared.command.Command.TheVariants as command
use Rattle.machine.specs.declared.command.Opening.TheVariants as opening
use Rattle.machine.specs.declared.command.Script.{Script}
use Rattle.machine.specs.declared.reads.Read.{Read}
use Rattle.machine.specs.declared.reads.Read.TheVariants as read
use Rattle.points.proofs.PointLemmas.{point_le_columns}
use Rattle.std.proofs.Math.Nat.{le-add_right}

-- the state after a draw
unfoldable pub next_state : ℕ → ℕ
next_state x = (75 * x + 74) % 65537

-- the state after so many draws
abbrev pub state_after : ℕ → ℕ → ℕ
state_after zero x = x
state_after (suc k) x = state_after k (next_state x)

-- the k-th number that is drawn from the state x on, below n
abbrev pub drawn : ℕ → ℕ → ℕ → ℕ
drawn k n x = state_after k x % n

-- k columns of a row, from a column on
abbrev pub in_row : ℕ → ℕ → ℕ → Range
in_row row column k =
    let start : Point = record { row = row; column = column } in
    let end : Point = record { row = row; column = column + k } in
    record { start = start; end = end; ordered = point_le_columns start end refl (le-add_right column k) }

-- a small letter so many times, `a` being number 0, and a line feed behind three
abbrev pub letters : ℕ → ℕ → List ℕ
letters letter times = replicate times (97 + letter) ++ (if times == 3 then LF ∷ [] else [])

-- the edit that is drawn from the state x on, with five draws: row, column, units, letter and times
abbrev pub drawn_edit : ℕ → Command
drawn_edit x = command.Edit (in_row (drawn 1 64 x) (drawn 2 16 x) (drawn 3 4 x)) (letters (drawn 4 26 x) (1 + drawn 5 3 x))

-- what a sent snapshot is asked
abbrev pub sent_reads : List Read
sent_reads = read.Find (codes "a") 1 ∷ read.Size ∷ []

-- a snapshot with the block's number is taken and sent away
abbrev pub sent : ℕ → List Command
sent e = command.Take e ∷ command.Send e sent_reads ∷ []

-- block e of a session, drawn from the state x on: each 16th sends a snapshot away, each 64th squashes
abbrev pub block : ℕ → ℕ → List Command
block e x = drawn_edit x ∷ (if e % 16 == 0 then sent e else []) ++ (if e % 64 == 0 then command.Squash ∷ [] else [])

-- the first blocks of a session that begins in the state x. Each block draws five numbers.
abbrev pub blocks : ℕ → ℕ → List Command
blocks x zero = []
blocks x (suc e) = blocks x e ++ block (suc e) (state_after (5 * e) x)

-- the first sessions of so many blocks each, begun in the state x. One state runs through all of them.
abbrev pub made_sessions : ℕ → ℕ → ℕ → List (List Command)
made_sessions x edits zero = []
made_sessions x edits (suc s) = made_sessions x edits s ++ blocks (state_after (5 * edits * s) x) edits ∷ []

-- the script
abbrev pub made_script : ℕ → ℕ → ℕ → Script
made_script first edits sessions = record {
  version = 1;
  opening = opening.Text (codes "abc" ++ LF ∷ codes "def" ++ LF ∷ []);
  sessions = made_sessions first edits sessions;
}
