-- The table of a script's commands and reads: the word of each, and the members that it has besides.
use Rattle.std.specs.Prelude.{ℕ, List, [], ◌∷◌, codes}
use Rattle.script.specs.declared.limits.TheConstants.{MAX_SHOWN, MAX_HITS, MAX_ID}

-- what a member holds
pub data Kind : Type 0 where
  text : Kind
  flag : Kind
  -- a whole number up to this one
  whole : ℕ → Kind
  range : Kind
  how : Kind
  encoding : Kind
  needle : Kind
  name : Kind
  reads : Kind

-- the key of a member, and what it holds
abbrev pub Field : Type 0
Field = List ℕ × Kind

-- a word, and the members beside it
abbrev pub Row : Type 0
Row = List ℕ × List Field

-- the words of a find of marks
abbrev pub how_words : List (List ℕ)
how_words = codes "intersecting" ∷ codes "containing" ∷ codes "contained_in" ∷ codes "starting_in" ∷ codes "starting_at" ∷ codes "ending_in" ∷ codes "ending_at" ∷ []

abbrev pub encoding_words : List (List ℕ)
encoding_words = codes "utf8" ∷ codes "utf16le" ∷ codes "utf16be" ∷ codes "latin1" ∷ []

-- the members of an edit, and of a look at the text
abbrev pub edit_fields : List Field
edit_fields = (codes "range", range) ∷ (codes "text", text) ∷ []

abbrev pub look_fields : List Field
look_fields = (codes "range", range) ∷ (codes "limit", whole MAX_SHOWN) ∷ []

-- the commands, by the word of `do`
abbrev pub command_rows : List Row
command_rows =
    (codes "edit", edit_fields)
    ∷ (codes "text", look_fields)
    ∷ (codes "undo", [])
    ∷ (codes "redo", [])
    ∷ (codes "squash", [])
    ∷ (codes "mark", (codes "id", whole MAX_ID) ∷ (codes "range", range) ∷ (codes "exclusive", flag) ∷ [])
    ∷ (codes "unmark", (codes "id", whole MAX_ID) ∷ [])
    ∷ (codes "exclusive", (codes "id", whole MAX_ID) ∷ (codes "value", flag) ∷ [])
    ∷ (codes "range", (codes "id", whole MAX_ID) ∷ [])
    ∷ (codes "compare", (codes "a", whole MAX_ID) ∷ (codes "b", whole MAX_ID) ∷ [])
    ∷ (codes "marks", (codes "how", how) ∷ (codes "range", range) ∷ [])
    ∷ (codes "watch", (codes "id", whole MAX_ID) ∷ [])
    ∷ (codes "unwatch", (codes "id", whole MAX_ID) ∷ [])
    ∷ (codes "take", (codes "snapshot", whole MAX_ID) ∷ [])
    ∷ (codes "read", (codes "snapshot", whole MAX_ID) ∷ (codes "reads", reads) ∷ [])
    ∷ (codes "send", (codes "snapshot", whole MAX_ID) ∷ (codes "reads", reads) ∷ [])
    ∷ (codes "release", (codes "snapshot", whole MAX_ID) ∷ [])
    ∷ []

-- the reads of a `read` or a `send`, by the word of `get`
abbrev pub read_rows : List Row
read_rows =
    (codes "size", [])
    ∷ (codes "text", look_fields)
    ∷ (codes "find", (codes "needle", needle) ∷ (codes "limit", whole MAX_HITS) ∷ [])
    ∷ (codes "pattern", (codes "pattern", text) ∷ (codes "limit", whole MAX_HITS) ∷ [])
    ∷ (codes "save", (codes "name", name) ∷ (codes "encoding", encoding) ∷ [])
    ∷ []

-- the two openings: a text, or a file
abbrev pub text_opening : List Field
text_opening = (codes "text", text) ∷ []

abbrev pub file_opening : List Field
file_opening = (codes "file", name) ∷ (codes "encoding", encoding) ∷ []
