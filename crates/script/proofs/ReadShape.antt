-- The shape of a command that reads a snapshot.
use Rattle.std.proofs.Common.{◌≡◌, ◌||◌, not, ℕ, List, Bool, true, false, Option, Some, None, refl, sym, ap, ◌∙◌}
use Rattle.std.specs.Prelude.{◌==◌, codes}
use Rattle.script.specs.declared.limits.TheConstants.{MAX_ID}
use Rattle.script.specs.Parts.{member_count, string_in}
use Rattle.script.specs.Reading.{read_members_break}
use Rattle.script.specs.Rows as kind
use Rattle.script.specs.Rules.{any_item, field_breaks, is_misshapen, read_breaks, wrong_kind}
use Rattle.std.specs.Str.{bytes_eq}
use Rattle.std.proofs.lemmas.Slice.Eq.{bytes_eq-Decides}
use Rattle.serde_json.specs.Data.{Data, Items}
use Rattle.serde_json.specs.Find.{get, as_array}

drop_false : (n s u : Bool) → (n || (s || (u || false))) ≡ (n || (s || u))
drop_false true s u = refl
drop_false false true u = refl
drop_false false false true = refl
drop_false false false false = refl

-- a `read` or a `send`
abbrev reading_word : Bool → List ℕ
reading_word true = codes "read"
reading_word false = codes "send"

-- a list of reads, or something else
by_list : (b : Bool) (d w : Data) (o : Option Items) → string_in (codes "do") d ≡ Some (reading_word b) → get (codes "reads") d ≡ Some w → as_array w ≡ o → is_misshapen false d ≡ read_members_break d
by_list true d w None word reads list = rw (word, reads, list) refl
by_list false d w None word reads list = rw (word, reads, list) refl
by_list true d w (Some ds) word reads list =
    rw (word, reads, list) (drop_false (not (member_count d == 3)) (field_breaks wrong_kind true (kind.whole MAX_ID) (get (codes "snapshot") d)) (any_item (read_breaks wrong_kind true) ds))
by_list false d w (Some ds) word reads list =
    rw (word, reads, list) (drop_false (not (member_count d == 3)) (field_breaks wrong_kind true (kind.whole MAX_ID) (get (codes "snapshot") d)) (any_item (read_breaks wrong_kind true) ds))

by_member : (b : Bool) (d : Data) (o : Option Data) → string_in (codes "do") d ≡ Some (reading_word b) → get (codes "reads") d ≡ o → is_misshapen false d ≡ read_members_break d
by_member true d None word reads = rw (word, reads) refl
by_member false d None word reads = rw (word, reads) refl
by_member b d (Some w) word reads = by_list b d w (as_array w) word reads refl

-- the shape of a command with the word of a read
read_misshapen : (r : Bool) (d : Data) (word : List ℕ) (b broken : Bool) → string_in (codes "do") d ≡ Some word → b ≡ bytes_eq word (reading_word r) → b ≡ true → broken ≡ read_members_break d → broken ≡ is_misshapen false d
read_misshapen r d word b broken has eq is e = e ∙ sym (by_member r d (get (codes "reads") d) (has ∙ ap Some ((bytes_eq-Decides word (reading_word r)).0 (sym eq ∙ is))) refl)

pub read_is_misshapen : (d : Data) (word : List ℕ) (b broken : Bool) → string_in (codes "do") d ≡ Some word → b ≡ bytes_eq word (codes "read") → b ≡ true → broken ≡ read_members_break d → broken ≡ is_misshapen false d
read_is_misshapen = read_misshapen true

pub send_is_misshapen : (d : Data) (word : List ℕ) (b broken : Bool) → string_in (codes "do") d ≡ Some word → b ≡ bytes_eq word (codes "send") → b ≡ true → broken ≡ read_members_break d → broken ≡ is_misshapen false d
send_is_misshapen = read_misshapen false
