-- Different transcripts have different texts.
use Rattle.std.proofs.Common.{◌≡◌, ◌+◌, ◌^◌, ◌<◌, ℕ, [], ◌∷◌, ◌++◌, Some, decimal, refl, sym, ap, ap₂, ◌∙◌, arith}
use Rattle.std.proofs.lemmas.List.{append_cancel_right}
use Rattle.std.proofs.lemmas.Option.{same_Some}
use Rattle.json.specs.Lex.{tokens}
use Rattle.json.specs.Json as json
use Rattle.json.specs.Tree.{json_tokens, depth, HasNumbers, ItemsHaveNumbers, MembersHaveNumbers}
use Rattle.json.proofs.Printed.Decimals.{IsNumber-decimal}
use Rattle.json.proofs.Printed.Tokens.{tokens-print}
use Rattle.json.proofs.Printed.Trees.{value-json_tokens, ArePrintable-json_tokens}
use Rattle.machine.specs.declared.reply.Transcript.{Transcript}
use Rattle.script.specs.TranscriptDocument.{transcript_value, transcript_text}
use Rattle.script.specs.DocumentLaws.{IsWhole, ItemsAreWhole, MembersAreWhole}
use Rattle.script.proofs.Apart.{transcripts_apart}
use Rattle.serde_json.specs.Data.{Data, null, boolean, number, string, array, object, unsigned, negative, float, Items, no_items, item, Members, no_members, member}
use Rattle.serde_json.specs.Written.{outline, items_outline, members_outline, compact_text}
use Rattle.serde_json.proofs.Numbers.{number_of-decimal}
use Rattle.serde_json.proofs.Texts.{print-outline}
use Rattle.serde_json.specs.Read.{number_of}

-- ---- from the text to the JSON that was written

json_apart : (j k : json.Json) → json_tokens j ≡ json_tokens k → j ≡ k
json_apart j k e =
    let n = depth j + depth k in
    let first = value-json_tokens j n [] (omega arith) in
    let second = value-json_tokens k n [] (omega arith) in
    let same : Some (j, []) ≡ Some (k, []) = sym first ∙ ap (λ ts. json.value n (ts ++ [])) e ∙ second in
    ap (λ p. p.0) (same_Some (j, []) (k, []) same)

mutual
  has_numbers : (d : Data) → IsWhole d → HasNumbers (outline d)
  has_numbers null h = tt
  has_numbers (boolean b) h = tt
  has_numbers (number (unsigned n)) h = IsNumber-decimal n h
  has_numbers (number (negative z)) h = absurd h
  has_numbers (number (float x)) h = absurd h
  has_numbers (string s) h = tt
  has_numbers (array ds) h = items_have_numbers ds h
  has_numbers (object ms) h = members_have_numbers ms h

  items_have_numbers : (ds : Items) → ItemsAreWhole ds → ItemsHaveNumbers (items_outline ds)
  items_have_numbers no_items h = tt
  items_have_numbers (item d ds) h = (has_numbers d h.0, items_have_numbers ds h.1)

  members_have_numbers : (ms : Members) → MembersAreWhole ms → MembersHaveNumbers (members_outline ms)
  members_have_numbers no_members h = tt
  members_have_numbers (member k d ms) h = (has_numbers d h.0, members_have_numbers ms h.1)

written : (d : Data) → IsWhole d → tokens (compact_text d) ≡ json_tokens (outline d)
written d h = ap tokens (sym (print-outline d)) ∙ tokens-print (json_tokens (outline d)) (ArePrintable-json_tokens (outline d) (has_numbers d h))

-- ---- from the JSON to the value

decimal_apart : (n m : ℕ) → n < 2 ^ 64 → m < 2 ^ 64 → decimal n ≡ decimal m → n ≡ m
decimal_apart n m h k e =
    let same : Some (unsigned n) ≡ Some (unsigned m) = sym (number_of-decimal n h) ∙ ap number_of e ∙ number_of-decimal m k in
    cc

mutual
  outline_apart : (d e : Data) → IsWhole d → IsWhole e → outline d ≡ outline e → d ≡ e
  outline_apart null null h k is = refl
  outline_apart (boolean b) (boolean c) h k is = cc
  outline_apart (number (unsigned n)) (number (unsigned m)) h k is = ap (λ x. number (unsigned x)) (decimal_apart n m h k cc)
  outline_apart (number (unsigned n)) (number (negative z)) h k is = absurd k
  outline_apart (number (unsigned n)) (number (float x)) h k is = absurd k
  outline_apart (number (negative z)) e h k is = absurd h
  outline_apart (number (float x)) e h k is = absurd h
  outline_apart (string s) (string t) h k is = cc
  outline_apart (array ds) (array es) h k is = ap array (items_apart ds es h k cc)
  outline_apart (object ms) (object ns) h k is = ap object (members_apart ms ns h k cc)
  outline_apart d e h k is = absurd cc

  items_apart : (ds es : Items) → ItemsAreWhole ds → ItemsAreWhole es → items_outline ds ≡ items_outline es → ds ≡ es
  items_apart no_items no_items h k is = refl
  items_apart (item d ds) (item e es) h k is = ap₂ item (outline_apart d e h.0 k.0 cc) (items_apart ds es h.1 k.1 cc)
  items_apart ds es h k is = absurd cc

  members_apart : (ms ns : Members) → MembersAreWhole ms → MembersAreWhole ns → members_outline ms ≡ members_outline ns → ms ≡ ns
  members_apart no_members no_members h k is = refl
  members_apart (member a d ms) (member b e ns) h k is =
      let key : a ≡ b = cc in
      let value : d ≡ e = outline_apart d e h.0 k.0 cc in
      let rest : ms ≡ ns = members_apart ms ns h.1 k.1 cc in
      cc
  members_apart ms ns h k is = absurd cc

-- ---- the whole

pub texts_apart : (t u : Transcript) → IsWhole (transcript_value t) → IsWhole (transcript_value u) → transcript_text t ≡ transcript_text u → t ≡ u
unfolding transcript_text
texts_apart t u h k e =
    let d = transcript_value t in
    let f = transcript_value u in
    let text : compact_text d ≡ compact_text f = append_cancel_right (compact_text d) (compact_text f) (10 ∷ []) e in
    let same : outline d ≡ outline f = json_apart (outline d) (outline f) (sym (written d h) ∙ ap tokens text ∙ written f k) in
    transcripts_apart t u (outline_apart d f h k same)
