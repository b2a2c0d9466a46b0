-- The text of a document is what is printed of its tokens, and a line feed.
use Rattle.std.proofs.Common.{◌≡◌, ℕ, List, [], ◌∷◌, ◌++◌, ap, ap₂, ◌∙◌}
use Rattle.json.specs.Print.{print}
use Rattle.json.specs.Written as writer
use Rattle.script.specs.Written.{tokens_of, WritesValue, text_of_value}
use Rattle.serde_json.specs.Data.{Data}
use Rattle.serde_json.proofs.Texts.{print-outline}

pub text_of_tokens : (d : Data) (start end : writer.Written) (bytes all : List ℕ) → start.before ≡ [] → start.tokens ≡ [] → WritesValue start end d
    → bytes ≡ end.before ++ print end.tokens → all ≡ bytes ++ 10 ∷ [] → all ≡ text_of_value d
text_of_tokens d start end bytes all before none w is last =
    let printed = is ∙ ap₂ (λ b ts. b ++ print ts) (w.adds.before ∙ before) (w.adds.tokens ∙ ap (λ ts. ts ++ tokens_of d) none) ∙ print-outline d in
    last ∙ ap (λ b. b ++ 10 ∷ []) printed
