-- Number words, and what `u32` reads of them.
use Rattle.std.proofs.Common.{◌≡◌, ℕ, ◌==◌, ◌&&◌, ◌||◌, ◌<◌, ◌^◌, Bool, true, false, not, nat_le, List, [], ◌∷◌, length, slice_index, Option, None, Some, refl, ap, ◌∙◌, arith, subst, if◌then◌else◌}
use Rattle.std.specs.Prelude.{option_and_then}
use Rattle.std.specs.Char.{is_ascii_digit, digit_value}
use Rattle.std.specs.List.{list_all}
use Rattle.std.specs.Str.Parse.{AllDigits, IsNumeral, digits_value, without_leading_plus}
use Rattle.std.proofs.lemmas.Bool.Decides.{nat_tests}
use Rattle.clap.specs.Matches.{first_value}
use Rattle.clap.specs.Walk.{Text, rows_of}
use Rattle.clap.specs.declared.parser.matches.Found.{Found}
use Rattle.clap.proofs.WalkLemmas.{first_value-rows}
use Rattle.command_words.specs.CommandLine.{is_number_word, number_in, number_at}

both : (a b : Bool) → (a && b) ≡ true → (a ≡ true) × (b ≡ true)
both true true h = (refl, refl)
both true false h = absurd cc
both false b h = absurd cc

digit : (b : ℕ) → is_ascii_digit b ≡ true → digit_value b < 10
digit b h = grind (arith, nat_tests)

all_digits : (w : List ℕ) → list_all is_ascii_digit w ≡ true → AllDigits 10 w
all_digits [] h = tt
all_digits (b ∷ bs) h = let parts = both (is_ascii_digit b) (list_all is_ascii_digit bs) h in (digit b parts.0, all_digits bs parts.1)

plain : (b : ℕ) → is_ascii_digit b ≡ true → (b == 43) ≡ false
plain b h = grind (arith, nat_tests)

no_plus : (w : List ℕ) → list_all is_ascii_digit w ≡ true → without_leading_plus w ≡ w
no_plus [] h = refl
no_plus (b ∷ bs) h = rw (plain b (both (is_ascii_digit b) (list_all is_ascii_digit bs) h).0) refl

some_digits : (w : List ℕ) → nat_le 1 (length w) ≡ true → 0 < length w
some_digits w h = grind (arith, nat_tests)

too_great : (value high : ℕ) → high < 2 ^ 32 → ¬ (value < 2 ^ 32) → nat_le value high ≡ false
too_great value high small above = grind (arith, nat_tests)

none_by : (a b c : Bool) (v : ℕ) → c ≡ false → None ≡ (if a && (b && c) then Some v else None)
none_by true true true v h = absurd cc
none_by true true false v h = refl
none_by true false c v h = refl
none_by false b c v h = refl

-- a number word that `u32` doesn't read is out of every range
pub out_of_reach : (w : List ℕ) (low high : ℕ) → high < 2 ^ 32 → is_number_word w ≡ true
    → ¬ (IsNumeral 10 (without_leading_plus w) × (digits_value 10 (without_leading_plus w) < 2 ^ 32)) → None ≡ number_in low high w
out_of_reach w low high small word unread =
    let parts = both (nat_le 1 (length w) && nat_le (length w) 9) (((length w == 1) || not (slice_index w 0 == 48)) && list_all is_ascii_digit w) word in
    let digits = (both ((length w == 1) || not (slice_index w 0 == 48)) (list_all is_ascii_digit w) parts.1).1 in
    let here = some_digits w (both (nat_le 1 (length w)) (nat_le (length w) 9) parts.0).0 in
    let P : List ℕ → Type 0 = λ t. ¬ (IsNumeral 10 t × (digits_value 10 t < 2 ^ 32)) in
    let own = subst P (no_plus w digits) unread in
    let above : ¬ (digits_value 10 w < 2 ^ 32) = λ h. own ((here, all_digits w digits), h) in
    none_by (is_number_word w) (nat_le low (digits_value 10 w)) (nat_le (digits_value 10 w) high) (digits_value 10 w) (too_great (digits_value 10 w) high small above)

-- the number under a name, by what the matches have there
pub number_found : (low high : ℕ) (f : Found) (name : Text) (o : Option Text) → o ≡ first_value f name → option_and_then (number_in low high) o ≡ number_at low high name (rows_of f)
number_found low high f name o e = ap (option_and_then (number_in low high)) (e ∙ first_value-rows f name)
