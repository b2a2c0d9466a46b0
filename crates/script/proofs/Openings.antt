-- What an opening breaks that is a file.
use Rattle.std.proofs.Common.{◌≡◌, ◌||◌, not, ℕ, List, [], ◌∷◌, Bool, true, false, cond, Option, Some, None, option_and_then, is_some, refl, ap, ◌∙◌}
use Rattle.std.specs.Prelude.{◌==◌, codes}
use Rattle.std.specs.Str.{bytes_eq}
use Rattle.std.proofs.lemmas.Option.{none-some}
use Rattle.machine.specs.declared.reads.Encoding.{Encoding}
use Rattle.machine.specs.declared.reads.Encoding.TheVariants as encoding
use Rattle.script.specs.declared.before.CommandFault.{CommandFault}
use Rattle.script.specs.declared.before.CommandFault.TheVariants as fault
use Rattle.script.specs.declared.refusal.ScriptRule.TheVariants.{BadShape, TooMany, BadEncoding, BadName}
use Rattle.script.specs.Parts.{member_count, string_in}
use Rattle.script.specs.Reading.{FaultIs, opening_tests}
use Rattle.script.specs.Rows.{encoding_words}
use Rattle.script.specs.Rules.{first_broken, is_name, is_one_of}
use Rattle.script.specs.ScriptDocument.{encoding_of}
use Rattle.script.proofs.ScriptExact.{string_exact}
use Rattle.serde_json.specs.Data.{Data, string}
use Rattle.serde_json.specs.Find.{get, as_str}

text_is : (o : Option Data) (s : List ℕ) → option_and_then as_str o ≡ Some s → o ≡ Some (string s)
text_is None s e = absurd (none-some s e)
text_is (Some t) s e = ap Some (string_exact t s e)

-- a word is one of the four where an encoding has it
one_of_four : (a b c d : Bool) → (a || (b || (c || (d || false)))) ≡ is_some (cond a (Some encoding.Utf8) (cond b (Some encoding.Utf16Le) (cond c (Some encoding.Utf16Be) (cond d (Some encoding.Latin1) None))))
one_of_four true b c d = refl
one_of_four false true c d = refl
one_of_four false false true d = refl
one_of_four false false false true = refl
one_of_four false false false false = refl

pub encoding_there : (s : List ℕ) → is_one_of encoding_words (Some s) ≡ is_some (encoding_of s)
unfolding encoding_of
encoding_there s = one_of_four (bytes_eq s (codes "utf8")) (bytes_eq s (codes "utf16le")) (bytes_eq s (codes "utf16be")) (bytes_eq s (codes "latin1"))

by_tests : (e n : Bool) (name : List ℕ) → first_broken ((false, BadShape) ∷ (false, TooMany) ∷ (not e || false, BadEncoding) ∷ (not (is_some (cond n (Some name) None)) || false, BadName) ∷ []) ≡ cond (not e) (Some BadEncoding) (cond (not n) (Some BadName) None)
by_tests true true name = refl
by_tests true false name = refl
by_tests false true name = refl
by_tests false false name = refl

-- an object with these two members that are strings, and no other
module _ (d : Data) (name word : List ℕ) (none : get (codes "text") d ≡ None) (two : (member_count d == 2) ≡ true) (file : string_in (codes "file") d ≡ Some name) (code : string_in (codes "encoding") d ≡ Some word) where
  file_tests : first_broken (opening_tests d) ≡ cond (not (is_some (encoding_of word))) (Some BadEncoding) (cond (not (is_name name)) (Some BadName) None)
  file_tests = rw (none, two, text_is (get (codes "file") d) name file, text_is (get (codes "encoding") d) word code) (by_tests (is_one_of encoding_words (Some word)) (is_name name) name)
      ∙ ap (λ b. cond (not b) (Some BadEncoding) (cond (not (is_name name)) (Some BadName) None)) (encoding_there word)

  pub bad_encoding : (r : CommandFault) → encoding_of word ≡ None → r ≡ fault.Breaks BadEncoding → FaultIs (first_broken (opening_tests d)) r
  bad_encoding r lacks is = rw is (file_tests ∙ rw lacks refl)

  pub bad_name : (r : CommandFault) (e : Encoding) → encoding_of word ≡ Some e → is_name name ≡ false → r ≡ fault.Breaks BadName → FaultIs (first_broken (opening_tests d)) r
  bad_name r e has wrong is = rw is (file_tests ∙ rw (has, wrong) refl)

  pub good_file : (e : Encoding) → encoding_of word ≡ Some e → is_name name ≡ true → first_broken (opening_tests d) ≡ None
  good_file e has right = file_tests ∙ rw (has, right) refl
