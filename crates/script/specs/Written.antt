-- What is written of a document: its JSON tokens, of which each value reads back.
use Rattle.std.specs.Prelude.{◌≡◌, ℕ, List, [], ◌∷◌, ◌++◌, Some}
use Rattle.std.specs.declared.cmp.Ordering.TheVariants.{Greater}
use Rattle.std.specs.Ordering.{nat_cmp}
use Rattle.std.specs.Cmp.Lexicographic.{slice_cmp}
use Rattle.json.specs.Token.{Token, key}
use Rattle.json.specs.Tree.{json_tokens}
use Rattle.json.specs.Written as writer
use Rattle.serde_json.specs.Data.{Data}
use Rattle.serde_json.specs.Read.{of_json}
use Rattle.serde_json.specs.Written.{outline, compact_text}

-- the tokens of a value
abbrev pub tokens_of : Data → List Token
tokens_of d = json_tokens (outline d)

-- the value is read from its JSON
abbrev pub IsReadable : Data → Type 0
IsReadable d = of_json (outline d) ≡ Some d

-- the second key comes behind the first
abbrev pub IsAbove : List ℕ → List ℕ → Type 0
IsAbove first second = slice_cmp nat_cmp second first ≡ Greater

-- these tokens were written behind what stood there
pub record Adds (old new : writer.Written) (ts : List Token) : Type 0 where
  pub tokens : new.tokens ≡ old.tokens ++ ts
  pub before : new.before ≡ old.before

-- a value was written
pub record WritesValue (old new : writer.Written) (d : Data) : Type 0 where
  pub adds : Adds old new (tokens_of d)
  pub readable : IsReadable d

-- a member was written: its key and its value
pub record WritesMember (old new : writer.Written) (k : List ℕ) (d : Data) : Type 0 where
  pub adds : Adds old new (key k ∷ tokens_of d)
  pub readable : IsReadable d

-- the text of a document with this value: its compact JSON text, and a line feed
abbrev pub text_of_value : Data → List ℕ
text_of_value d = compact_text d ++ 10 ∷ []
