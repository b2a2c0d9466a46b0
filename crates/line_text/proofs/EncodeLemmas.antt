-- A text that is encoded character by character: what the units so far and the next character's take.
use Rattle.std.proofs.Common.{◌≡◌, ℕ, suc, ◌+◌, ◌-◌, ◌/◌, ◌%◌, Bool, inl, inr, ◌<◌, ◌≤◌, List, [], ◌∷◌, ◌++◌, length, take, drop, get_or, map, cond, refl, sym, ap, ◌∙◌, subst, arith, length-append}
use Rattle.std.specs.Char.Escape.{encode_utf16}
use Rattle.std.proofs.lemmas.List.{take-append-drop, drop_more, map-id}
use Rattle.std.proofs.lemmas.Bool.Decides.{nat_tests}
use Rattle.std.proofs.lemmas.Bool.{cases_lt, lt-ltb, le-ltb}
use Rattle.std.specs.Prelude.{IsAscii}
use Rattle.std.specs.Str.{chars}
use Rattle.std.proofs.lemmas.Str.{chars-IsAscii}
use Rattle.std.proofs.lemmas.List.Concat.{flat_map-cons}
use Rattle.points.specs.Text.{utf16, utf16_of}
use Rattle.line_text.specs.declared.encode.Size.{Size}
use Rattle.points.proofs.TextLemmas.{utf16-append}
use Rattle.points.proofs.ExtentLemmas.{feeds, feeds-append}

pub length-utf16_push : (ys : List ℕ) (c : ℕ) → length (utf16 (ys ++ c ∷ [])) ≡ length (utf16 ys) + length (encode_utf16 c)
length-utf16_push ys c = ap length (utf16-append ys (c ∷ [])) ∙ (length-append (utf16 ys) (encode_utf16 c ++ []) ∙ omega (arith, length-append (encode_utf16 c) []))

-- the characters ys, and then c, come first among the characters cs
pub next_fits : (cs ys : List ℕ) (c : ℕ) → map (λ x. x) ys ≡ take (length ys) cs → (length ys < length cs) × (c ≡ get_or cs (length ys) c) → length (utf16 ys) + length (encode_utf16 c) ≤ length (utf16 cs)
next_fits cs ys c so_far turn = subst (λ (xs : List ℕ). length (utf16 ys) + length (encode_utf16 c) ≤ length (utf16 xs)) whole
    (omega (arith, ap length (utf16-append ys (c ∷ drop (length ys + 1) cs)), length-append (utf16 ys) (encode_utf16 c ++ utf16 (drop (length ys + 1) cs)), length-append (encode_utf16 c) (utf16 (drop (length ys + 1) cs))))
  where
    whole : ys ++ c ∷ drop (length ys + 1) cs ≡ cs
    whole = ap (λ (xs : List ℕ). xs ++ c ∷ drop (length ys + 1) cs) (sym (map-id ys) ∙ so_far)
        ∙ (ap (λ (xs : List ℕ). take (length ys) cs ++ xs) (ap (λ (x : ℕ). x ∷ drop (length ys + 1) cs) turn.1 ∙ sym (drop_more cs (length ys) c turn.0)) ∙ take-append-drop (length ys) cs)

-- the line feeds of one character more
pub feeds-utf16_push : (ys : List ℕ) (c : ℕ) → feeds (utf16 (ys ++ c ∷ [])) ≡ feeds (utf16 ys) + feeds (encode_utf16 c)
feeds-utf16_push ys c = ap feeds (utf16-append ys (c ∷ [])) ∙ (feeds-append (utf16 ys) (encode_utf16 c ++ []) ∙ omega (arith, feeds-append (encode_utf16 c) []))

pub feeds-encode_lf : (c : ℕ) → c ≡ 10 → feeds (encode_utf16 c) ≡ 1
feeds-encode_lf c e = subst (λ (x : ℕ). feeds (encode_utf16 x) ≡ 1) (sym e) refl

pub feeds-encode_other : (c : ℕ) → (c ≡ 10 → ⊥) → feeds (encode_utf16 c) ≡ 0
feeds-encode_other c ne = grind (arith, nat_tests)

-- the length that `len_utf16` gives
pub length-encode : (c n : ℕ) → (c < 0x1_0000 → n ≡ 1) → (0x1_0000 ≤ c → n ≡ 2) → n ≡ length (encode_utf16 c)
length-encode c n one two = elim (cases_lt c 0x1_0000) [
  | inl low ↦ one low ∙ sym (ap (λ (b : Bool). length (cond b (c ∷ []) ((0xD800 + (c - 0x1_0000) / 0x400) ∷ (0xDC00 + (c - 0x1_0000) % 0x400) ∷ []))) (lt-ltb c 0x1_0000 low))
  | inr high ↦ two high ∙ sym (ap (λ (b : Bool). length (cond b (c ∷ []) ((0xD800 + (c - 0x1_0000) / 0x400) ∷ (0xDC00 + (c - 0x1_0000) % 0x400) ∷ []))) (le-ltb c 0x1_0000 high))
]

abbrev size : ℕ → ℕ → Size
size units line_feeds = record { units = units; feeds = line_feeds }

pub same_size : (a b : Size) → a.units ≡ b.units → a.feeds ≡ b.feeds → a ≡ b
same_size a b units line_feeds = ap (λ (n : ℕ). size n a.feeds) units ∙ ap (λ (n : ℕ). size b.units n) line_feeds

encode_small : (b : ℕ) → b < 128 → encode_utf16 b ≡ b ∷ []
encode_small b h = grind (arith, nat_tests)

utf16_of_small : (bytes : List ℕ) → IsAscii bytes → utf16 bytes ≡ bytes
utf16_of_small [] h = refl
utf16_of_small (b ∷ bytes) h = flat_map-cons encode_utf16 b bytes
    ∙ (ap (λ (x : List ℕ). x ++ utf16 bytes) (encode_small b (h 0)) ∙ ap (λ (x : List ℕ). b ∷ x) (utf16_of_small bytes (λ i. h (suc i))))

-- the units of a text of ASCII are its bytes
pub utf16_of_ascii : (bytes : List ℕ) → IsAscii bytes → utf16_of bytes ≡ bytes
utf16_of_ascii bytes h = ap utf16 (chars-IsAscii bytes h) ∙ utf16_of_small bytes h
