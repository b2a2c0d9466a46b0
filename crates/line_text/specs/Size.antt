-- How large a text of units is.
use Rattle.std.specs.Prelude.{ℕ, List, length, count_by}
use Rattle.points.specs.Text.{is_lf}
use Rattle.line_text.specs.declared.encode.Size.{Size}

-- its units, and the line feeds among them
abbrev pub size_of : List ℕ → Size
size_of t = record { units = length t; feeds = count_by is_lf t }
