-- Places in a text: the point of an offset and the offset of a point, rows and their endings, clipping.
use Rattle.std.specs.Prelude.{ℕ, ◌+◌, ◌-◌, ◌==◌, ◌&&◌, min, List, [], length, take, count_by, sum_by, find, slice_index, nat_lt, Bool, not, if◌then◌else◌, Option, unwrap_or}
use Rattle.std.specs.List.{suffix_len, slice_split, slice_index_or, range_with_len}
use Rattle.std.specs.Char.Utf16.{is_high_surrogate, is_low_surrogate}
use Rattle.points.specs.declared.point.Point.{Point}
use Rattle.points.specs.Text.{CR, is_lf}

-- the extent of a text: its line feeds, and its units behind the last of them
abbrev pub extent : List ℕ → Point
extent t = record { row = count_by is_lf t; column = suffix_len (λ u. not (is_lf u)) t }

-- the point at an offset
abbrev pub point_at : List ℕ → ℕ → Point
point_at t i = extent (take i t)

abbrev pub same_point : Point → Point → Bool
same_point p q = (p.row == q.row) && (p.column == q.column)

-- the offset at which the point is p, where there is one
abbrev pub offset_of : List ℕ → Point → Option ℕ
offset_of t p = find (λ i. same_point (point_at t i) p) (range_with_len 0 (length t + 1))

-- the rows, without the line feeds between them
abbrev pub rows_of : List ℕ → List (List ℕ)
rows_of t = slice_split is_lf t

-- the units of row r, a carriage return of its ending among them
abbrev pub row_of : List ℕ → ℕ → List ℕ
row_of t r = slice_index_or (rows_of t) r []

-- the offset at which row r starts: each row before it reaches over its units and its line feed
abbrev pub row_start : List ℕ → ℕ → ℕ
row_start t r = sum_by (λ row. length row + 1) (take r (rows_of t))

-- the text's last unit is a carriage return
abbrev pub ends_with_cr : List ℕ → Bool
ends_with_cr t = slice_index t (length t - 1) == CR

-- the units of row r without its ending
abbrev pub line_of : List ℕ → ℕ → List ℕ
line_of t r = let row = row_of t r in if nat_lt r (count_by is_lf t) && ends_with_cr row then take (length row - 1) row else row

-- offset c of a line stands between the two units of a pair
abbrev pub splits_pair : List ℕ → ℕ → Bool
splits_pair line c = is_high_surrogate (slice_index line (c - 1)) && is_low_surrogate (slice_index line c)

-- the column that a column of this line is clipped to
abbrev pub clipped_column : List ℕ → ℕ → ℕ
clipped_column line c = let k = min c (length line) in if splits_pair line k then k - 1 else k

-- the point that p is clipped to: a point of the text, outside line endings and pairs
abbrev pub clip : List ℕ → Point → Point
clip t p = if nat_lt (count_by is_lf t) p.row then extent t else record { row = p.row; column = clipped_column (line_of t p.row) p.column }

-- the offset that a point is clipped to
abbrev pub clipped_offset : List ℕ → Point → ℕ
clipped_offset t p = unwrap_or (offset_of t (clip t p)) 0

-- the offsets of the clipped ends of a range
abbrev pub span : List ℕ → Point → Point → ℕ × ℕ
span t start end = (clipped_offset t start, clipped_offset t end)
