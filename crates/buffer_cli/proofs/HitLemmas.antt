-- Answers by the hits that were found, read by read.
use Rattle.std.proofs.Common.{◌≡◌, ℕ, suc, ◌+◌, ◌<◌, List, [], ◌∷◌, ◌++◌, length, length-append, map, take, drop, get_or, true, cond, Option, Some, None, refl, sym, subst, ap, ap₂, ◌∙◌, arith, append_assoc, append-nil}
use Rattle.std.specs.Prelude.{count_by, Result, Ok, Err, IfOk}
use Rattle.std.proofs.lemmas.Bool.{false≢true}
use Rattle.std.proofs.lemmas.List.Sums.{sum_by-cons, sum_by-append}
use Rattle.points.specs.declared.memory.NoMemory.{NoMemory}
use Rattle.points.specs.Text.{IsWellFormed, mended}
use Rattle.points.proofs.MendingLemmas.{mended-well_formed}
use Rattle.machine.specs.declared.reads.Read.{Read}
use Rattle.machine.specs.declared.reads.Read.TheVariants as read
use Rattle.machine.specs.declared.reads.ReadAnswer.{ReadAnswer}
use Rattle.machine.specs.Answers.{Matches, read_answer}
use Rattle.machine.specs.Lawful.{is_pattern}
use Rattle.machine.specs.Plain.{plain_answer, plain_answers}
use Rattle.search.specs.declared.found.Found.{Found}
use Rattle.search.specs.Answer.{FindsIn, answer_of, literal_answer}
use Rattle.buffer.specs.Reads.{is_own_read}
use Rattle.buffer_cli.specs.Hits.{Agree, AreFound, IsPatternAnswer, AreAnswers}

-- ---- what is told and what was found

pub agree-length : (told found : List (Option Matches)) → Agree told found → length told ≡ length found
agree-length [] [] h = refl
agree-length [] (f ∷ found) h = absurd h
agree-length (m ∷ told) [] h = absurd h
agree-length (m ∷ told) (f ∷ found) h = ap suc (agree-length told found h.1)

pub agree-append : (told found more others : List (Option Matches)) → Agree told found → Agree more others → Agree (told ++ more) (found ++ others)
agree-append [] [] more others h k = k
agree-append [] (f ∷ found) more others h k = absurd h
agree-append (m ∷ told) [] more others h k = absurd h
agree-append (m ∷ told) (f ∷ found) more others h k = (h.0, agree-append told found more others h.1 k)

-- none of none; some and then some
pub found_none : (told : List (Option Matches)) → AreFound 0 told told []
found_none told = record { told = []; are = refl; many = refl; agree = tt }

pub found_more : (n m : ℕ) (before between after found others : List (Option Matches)) → AreFound n before between found → AreFound m between after others → AreFound (n + m) before after (found ++ others)
found_more n m before between after found others h k = record {
  told = h.told ++ k.told;
  are = h.are ∙ (ap (λ (xs : List (Option Matches)). h.told ++ xs) k.are ∙ sym (append_assoc h.told k.told after));
  many = omega (arith, length-append found others, h.many, k.many);
  agree = agree-append h.told found k.told others h.agree k.agree;
}

-- how many are left
pub found_left : (n : ℕ) (before after found : List (Option Matches)) → AreFound n before after found → n + length after ≡ length before
found_left n before after found h = omega (arith, ap length h.are, length-append h.told after, agree-length h.told found h.agree, h.many)

-- ---- the definition's answers to some reads and then some

pub patterns_more : (r : Read) (rs : List Read) → count_by is_pattern (r ∷ rs) ≡ cond (is_pattern r) 1 0 + count_by is_pattern rs
patterns_more r rs = sum_by-cons (λ (x : Read). cond (is_pattern x) 1 0) r rs

patterns-append : (rs more : List Read) → count_by is_pattern (rs ++ more) ≡ count_by is_pattern rs + count_by is_pattern more
patterns-append rs more = sum_by-append (λ (x : Read). cond (is_pattern x) 1 0) rs more

module _ (t : List ℕ) where
  pub answers-append : (found later : List (Option Matches)) (rs more : List Read) → length found ≡ count_by is_pattern rs → plain_answers t (found ++ later) (rs ++ more) ≡ plain_answers t found rs ++ plain_answers t later more
  answers-append [] later [] more many = refl
  answers-append (f ∷ found) later [] more many = absurd (omega (arith, many))
  answers-append found later (read.Size ∷ rs) more many =
      ap (λ (xs : List ReadAnswer). plain_answer (read_answer t None read.Size) ∷ xs) (answers-append found later rs more (omega (arith, many, patterns_more read.Size rs)))
  answers-append found later (read.Text range limit ∷ rs) more many =
      ap (λ (xs : List ReadAnswer). plain_answer (read_answer t None (read.Text range limit)) ∷ xs) (answers-append found later rs more (omega (arith, many, patterns_more (read.Text range limit) rs)))
  answers-append found later (read.Find needle limit ∷ rs) more many =
      ap (λ (xs : List ReadAnswer). plain_answer (read_answer t None (read.Find needle limit)) ∷ xs) (answers-append found later rs more (omega (arith, many, patterns_more (read.Find needle limit) rs)))
  answers-append found later (read.Save name encoding ∷ rs) more many =
      ap (λ (xs : List ReadAnswer). plain_answer (read_answer t None (read.Save name encoding)) ∷ xs) (answers-append found later rs more (omega (arith, many, patterns_more (read.Save name encoding) rs)))
  answers-append [] later (read.Pattern pattern limit ∷ rs) more many = absurd (omega (arith, many, patterns_more (read.Pattern pattern limit) rs))
  answers-append (f ∷ found) later (read.Pattern pattern limit ∷ rs) more many =
      ap (λ (xs : List ReadAnswer). plain_answer (read_answer t f (read.Pattern pattern limit)) ∷ xs) (answers-append found later rs more (omega (arith, many, patterns_more (read.Pattern pattern limit) rs)))

  -- what was found later plays no part
  pub answers_first : (found later : List (Option Matches)) (rs : List Read) → length found ≡ count_by is_pattern rs → plain_answers t (found ++ later) rs ≡ plain_answers t found rs
  answers_first found later rs many =
      ap (λ (xs : List Read). plain_answers t (found ++ later) xs) (sym (append-nil rs)) ∙ (answers-append found later rs [] many ∙ append-nil (plain_answers t found rs))

  -- ---- answers, read by read

  pub answers_none : (told : List (Option Matches)) → AreAnswers t told told [] []
  answers_none told = record { found = []; hits = found_none told; are = refl }

  pub answers_more : (before between after : List (Option Matches)) (rs : List Read) (r : Read) (answers : List ReadAnswer) (a : ReadAnswer) → AreAnswers t before between rs answers → AreAnswers t between after (r ∷ []) (a ∷ [])
      → AreAnswers t before after (rs ++ r ∷ []) (answers ++ a ∷ [])
  answers_more before between after rs r answers a h k = record {
    found = h.found ++ k.found;
    hits = subst (λ (n : ℕ). AreFound n before after (h.found ++ k.found)) (sym (patterns-append rs (r ∷ []))) (found_more (count_by is_pattern rs) (count_by is_pattern (r ∷ [])) before between after h.found k.found h.hits k.hits);
    are = ap₂ (λ (xs ys : List ReadAnswer). xs ++ ys) h.are k.are ∙ sym (answers-append h.found k.found rs (r ∷ []) h.hits.many);
  }

  -- what the text alone tells
  pub own_answered : (told : List (Option Matches)) (r : Read) (a : ReadAnswer) → is_own_read r ≡ true → read_answer t None r ≡ Some a → AreAnswers t told told (r ∷ []) (a ∷ [])
  own_answered told read.Size a own is = record { found = []; hits = found_none told; are = ap (λ (o : Option ReadAnswer). plain_answer o ∷ []) (sym is) }
  own_answered told (read.Text range limit) a own is = record { found = []; hits = found_none told; are = ap (λ (o : Option ReadAnswer). plain_answer o ∷ []) (sym is) }
  own_answered told r a own is = absurd (false≢true own)

  pub found_answered : (told : List (Option Matches)) (needle : List ℕ) (limit : ℕ) (a : ReadAnswer) → a ≡ literal_answer t limit needle → AreAnswers t told told (read.Find needle limit ∷ []) (a ∷ [])
  found_answered told needle limit a is = record { found = []; hits = found_none told; are = ap (λ (x : ReadAnswer). x ∷ []) is }

  pub matched_answered : (before after : List (Option Matches)) (m : Option Matches) (pattern : List ℕ) (limit : ℕ) (a : ReadAnswer) → before ≡ m ∷ after → IsPatternAnswer t limit m a → AreAnswers t before after (read.Pattern pattern limit ∷ []) (a ∷ [])
  matched_answered before after m pattern limit a is h = record {
    found = Some h.hits ∷ [];
    hits = record { told = m ∷ []; are = is; many = refl; agree = (h.agree, tt) };
    are = ap (λ (x : ReadAnswer). x ∷ []) h.is;
  }

  -- ---- searches

  literal_is : (limit : ℕ) (needle : List ℕ) (u : List ℕ) (a : ReadAnswer) → IsWellFormed t → u ≡ t → a ≡ literal_answer (mended u) limit needle → a ≡ literal_answer t limit needle
  literal_is limit needle u a whole same is = is ∙ ap (λ (x : List ℕ). literal_answer x limit needle) (ap mended same ∙ mended-well_formed t whole)

  pattern_is : (limit : ℕ) (told : Option Matches) (u : List ℕ) (f : Found) (a : ReadAnswer) → u ≡ t → FindsIn told u limit f → a ≡ answer_of f → IsPatternAnswer t limit told a
  pattern_is limit None u f a same h is = record { hits = λ bytes. h.hits; agree = tt; is = is ∙ (h.answer_is ∙ rw same refl) }
  pattern_is limit (Some tells) u f a same h is = record { hits = tells; agree = refl; is = is ∙ (h.answer_is ∙ rw (h.told_are, same) refl) }

  pub literal_done : (limit : ℕ) (needle : List ℕ) (u : List ℕ) (f : Found) (r : Result ReadAnswer NoMemory) → IsWellFormed t → u ≡ t → answer_of f ≡ literal_answer (mended u) limit needle → IfOk r (λ a. a ≡ answer_of f)
      → IfOk r (λ a. a ≡ literal_answer t limit needle)
  literal_done limit needle u f (Ok a) whole same found is = literal_is limit needle u a whole same (is ∙ found)
  literal_done limit needle u f (Err e) whole same found is = is

  pub pattern_done : (limit : ℕ) (told : Option Matches) (u : List ℕ) (f : Found) (r : Result ReadAnswer NoMemory) → u ≡ t → FindsIn told u limit f → IfOk r (λ a. a ≡ answer_of f) → IfOk r (IsPatternAnswer t limit told)
  pattern_done limit told u f (Ok a) same h is = pattern_is limit told u f a same h is
  pattern_done limit told u f (Err e) same h is = is

  pub matched_done : (before after : List (Option Matches)) (m : Option Matches) (pattern : List ℕ) (limit : ℕ) (r : Result ReadAnswer NoMemory) → before ≡ m ∷ after → IfOk r (IsPatternAnswer t limit m) → IfOk r (λ a. AreAnswers t before after (read.Pattern pattern limit ∷ []) (a ∷ []))
  matched_done before after m pattern limit (Ok a) is h = matched_answered before after m pattern limit a is h
  matched_done before after m pattern limit (Err e) is h = h

-- the first of some matchers was taken off
pub first_taken : {M : Type 0} (tells : M → Option Matches) (old new : List M) (m : M) → m ≡ get_or old 0 m → new ≡ take 0 old ++ drop 1 old → 0 < length old → map tells old ≡ tells m ∷ map tells new
first_taken tells [] new m at is len = absurd (omega (arith, len))
first_taken tells (x ∷ xs) new m at is len = ap (λ (y : _). tells y ∷ map tells xs) (sym at) ∙ ap (λ (ys : List _). tells m ∷ map tells ys) (sym is)
