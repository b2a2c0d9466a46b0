use Rattle.std.proofs.Common.{◌≡◌, ◌≤◌, take, count_by}
use Rattle.points.specs.Text.{is_lf}
use Rattle.search.proofs.place.feeds_in.Given as goal

abbrev pub invariant-loop-byte : goal.invariant-loop-byte
invariant-loop-byte l = record {
  counted : l.feeds ≡ count_by is_lf (take l.byte-index l.bytes);
  few : l.feeds ≤ l.byte-index;
}
