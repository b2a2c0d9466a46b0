-- What is written part by part, put together.
use Rattle.std.proofs.Common.{◌≡◌, ℕ, ◌^◌, ◌<◌, List, [], ◌∷◌, ◌++◌, Some, option_map, option_and_then, refl, ap, ◌∙◌, append_assoc}
use Rattle.std.specs.Prelude.{⊤}
use Rattle.json.specs.Token.{Token, begin_array, end_array, begin_object, end_object, key}
use Rattle.json.specs.Tree.{items_tokens, members_tokens}
use Rattle.json.specs.Written as writer
use Rattle.script.specs.TranscriptDocument.{whole}
use Rattle.script.specs.Written.{tokens_of, IsReadable, Adds, WritesValue, WritesMember}
use Rattle.serde_json.specs.Data.{Data, number, array, object, item, Members, no_members, member, put}
use Rattle.serde_json.specs.Read.{of_items, of_members}
use Rattle.serde_json.specs.View.{items_of}
use Rattle.serde_json.specs.Written.{items_outline, members_outline}
use Rattle.serde_json.proofs.Numbers.{number_of-decimal}

pub whole_readable : (n : ℕ) → n < 2 ^ 64 → IsReadable (whole n)
whole_readable n h = ap (option_map number) (number_of-decimal n h)

-- ---- lists

-- these values and the closing bracket were written
pub record WritesRest (old : List Token) (end : List Token) (ds : List Data) : Type 0 where
  pub tokens : end ≡ old ++ items_tokens (items_outline (items_of ds))
  pub readable : of_items (items_outline (items_of ds)) ≡ Some (items_of ds)

pub rest_ends : (old end : List Token) → end ≡ old ++ end_array ∷ [] → WritesRest old end []
rest_ends old end e = record { tokens = e; readable = refl }

pub rest_more : (old next end : List Token) (d : Data) (ds : List Data) → next ≡ old ++ tokens_of d → IsReadable d → WritesRest next end ds → WritesRest old end (d ∷ ds)
rest_more old next end d ds e readable rest = record {
  tokens = rest.tokens ∙ ap (λ ts. ts ++ items_tokens (items_outline (items_of ds))) e ∙ append_assoc old (tokens_of d) _;
  readable = ap (option_and_then (λ x. option_map (item x) (of_items (items_outline (items_of ds))))) readable ∙ ap (option_map (item d)) rest.readable;
}

pub list_written : (old opened new : writer.Written) (ds : List Data) → opened.tokens ≡ old.tokens ++ begin_array ∷ [] → WritesRest opened.tokens new.tokens ds → new.before ≡ old.before
    → WritesValue old new (array (items_of ds))
list_written old opened new ds e rest before = record {
  adds = record { tokens = rest.tokens ∙ ap (λ ts. ts ++ items_tokens (items_outline (items_of ds))) e ∙ append_assoc old.tokens (begin_array ∷ []) _; before = before };
  readable = ap (option_map array) rest.readable;
}

-- ---- objects

abbrev pub AreReadable : Members → Type 0
AreReadable no_members = ⊤
AreReadable (member k d ms) = IsReadable d × AreReadable ms

-- the members put in one after another
abbrev pub puts : Members → Members → Members
puts no_members found = found
puts (member k d ms) found = puts ms (put k d found)

members_read : (ms found : Members) → AreReadable ms → of_members (members_outline ms) found ≡ Some (puts ms found)
members_read no_members found h = refl
members_read (member k d ms) found h = ap (option_and_then (λ x. of_members (members_outline ms) (put k x found))) h.0 ∙ members_read ms (put k d found) h.1

-- these members and the closing brace were written
pub record Closes (old new : writer.Written) (ms : Members) : Type 0 where
  pub adds : Adds old new (members_tokens (members_outline ms))
  pub readable : AreReadable ms

pub closed : (old new : writer.Written) → new.tokens ≡ old.tokens ++ end_object ∷ [] → new.before ≡ old.before → Closes old new no_members
closed old new e before = record { adds = record { tokens = e; before = before }; readable = tt }

pub and_member : {old next new : writer.Written} {k : List ℕ} {d : Data} {ms : Members} → WritesMember old next k d → Closes next new ms → Closes old new (member k d ms)
and_member {old} {next} {new} {k} {d} {ms} m rest = record {
  adds = record {
    tokens = rest.adds.tokens ∙ ap (λ ts. ts ++ members_tokens (members_outline ms)) m.adds.tokens ∙ append_assoc old.tokens (key k ∷ tokens_of d) _;
    before = rest.adds.before ∙ m.adds.before;
  };
  readable = (m.readable, rest.readable);
}

pub object_written : (old opened new : writer.Written) (ms : Members) → opened.tokens ≡ old.tokens ++ begin_object ∷ [] → opened.before ≡ old.before → Closes opened new ms → puts ms no_members ≡ ms
    → WritesValue old new (object ms)
object_written old opened new ms e before rest ordered = record {
  adds = record {
    tokens = rest.adds.tokens ∙ ap (λ ts. ts ++ members_tokens (members_outline ms)) e ∙ append_assoc old.tokens (begin_object ∷ []) _;
    before = rest.adds.before ∙ before;
  };
  readable = ap (option_map object) (members_read ms no_members rest.readable ∙ ap Some ordered);
}
