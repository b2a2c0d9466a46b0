-- A list of which some members are written.
use Rattle.std.proofs.Common.{◌≡◌, List, [], ◌∷◌, ◌++◌, map, ◌∙◌}
use Rattle.json.specs.Token.{Token, begin_array, end_array}
use Rattle.json.specs.Written as writer
use Rattle.script.specs.Written.{WritesValue}
use Rattle.script.proofs.WrittenLemmas.{WritesRest, rest_ends, rest_more, list_written}
use Rattle.serde_json.specs.Data.{Data, array}
use Rattle.serde_json.specs.View.{items_of}

-- what is still to be written of the members completes the list
pub record IsPartway {A : Type 0} (value : A → Data) (opened out : writer.Written) (all left : List A) : Type 0 where
  pub before : out.before ≡ opened.before
  pub rest : (end : List Token) → WritesRest out.tokens end (map value left) → WritesRest opened.tokens end (map value all)

pub member_written : {A : Type 0} (value : A → Data) (opened out next : writer.Written) (all left : List A) (x : A) → IsPartway value opened out all (x ∷ left) → WritesValue out next (value x) → IsPartway value opened next all left
member_written value opened out next all left x partway w = record {
  before = w.adds.before ∙ partway.before;
  rest = λ end more. partway.rest end (rest_more out.tokens next.tokens end (value x) (map value left) w.adds.tokens w.readable more);
}

pub list_closed : {A : Type 0} (value : A → Data) (old opened out new : writer.Written) (all : List A) → opened.tokens ≡ old.tokens ++ begin_array ∷ [] → opened.before ≡ old.before → IsPartway value opened out all []
    → new.tokens ≡ out.tokens ++ end_array ∷ [] → new.before ≡ out.before → WritesValue old new (array (items_of (map value all)))
list_closed value old opened out new all begun kept partway ended last =
    list_written old opened new (map value all) begun (partway.rest new.tokens (rest_ends out.tokens new.tokens ended)) (last ∙ partway.before ∙ kept)
