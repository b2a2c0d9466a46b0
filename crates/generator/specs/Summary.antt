-- The five numbers that sum a transcript up.
use Rattle.std.specs.Prelude.{ℕ, ◌+◌, ◌-◌, ◌^◌, List, [], ◌∷◌, ◌++◌, min, length, count_by, sum_by, codes, decimal}
use Rattle.points.specs.Text.{LF, utf16_of, is_lf}
use Rattle.machine.specs.declared.reads.ReadAnswer.{ReadAnswer}
use Rattle.machine.specs.declared.reads.ReadAnswer.TheVariants as answer
use Rattle.machine.specs.declared.reply.Reply.{Reply}
use Rattle.machine.specs.declared.reply.Reply.TheVariants as reply
use Rattle.machine.specs.declared.reply.Transcript.{Transcript}
use Rattle.machine.specs.Lawful.{is_taken}
use Rattle.generator.specs.declared.numbers.Summary.{Summary}

-- a count of 64 bits that stands still at its end
abbrev pub capped : ℕ → ℕ
capped n = min n (2 ^ 64 - 1)

-- the hits of a search
abbrev pub hits_of : ReadAnswer → ℕ
hits_of (answer.Found count hits) = count
hits_of _ = 0

-- and those that a reply tells
abbrev pub hits_told : Reply → ℕ
hits_told (reply.Answered answers) = sum_by hits_of answers
hits_told _ = 0

-- the calls that were numbered, the units and the rows of the final text, the snapshots that were taken, and the hits of all searches
abbrev pub summary_of : Transcript → Summary
summary_of t = record {
  calls = t.end.count;
  units = length (utf16_of t.end.text);
  rows = count_by is_lf (utf16_of t.end.text) + 1;
  snapshots = capped (sum_by (count_by is_taken) t.sessions);
  hits = capped (sum_by (sum_by hits_told) t.sessions);
}

-- a number behind its word, and what comes behind its line
abbrev pub line : List ℕ → ℕ → List ℕ → List ℕ
line word n rest = word ++ (decimal n ++ LF ∷ rest)

-- the five numbers, a line each
abbrev pub summary_text : Summary → List ℕ
summary_text s = line (codes "calls ") s.calls (line (codes "units ") s.units (line (codes "rows ") s.rows (line (codes "snapshots ") s.snapshots (line (codes "hits ") s.hits []))))
