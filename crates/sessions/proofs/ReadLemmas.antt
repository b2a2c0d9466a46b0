-- Reads of a text, answered in turn.
use Rattle.std.proofs.Common.{◌≡◌, ℕ, zero, suc, ◌+◌, ◌<◌, ◌≤◌, Bool, true, false, cond, List, [], ◌∷◌, ◌++◌, length, drop, get_or, ◌&&◌, Option, None, Some, refl, sym, ◌∙◌, ap, subst, arith, append_assoc, append-nil}
use Rattle.std.proofs.Math.Logic.{∥∥₁_elim}
use Rattle.std.specs.Coded.{Coded-set, coded_list, coded_ℕ}
use Rattle.std.specs.Prelude.{count_by, Result, Ok, Err, IfOk}
use Rattle.std.specs.List.{AllByRecursion, list_all}
use Rattle.std.proofs.lemmas.Bool.{false≢true, and_parts}
use Rattle.std.proofs.lemmas.List.Sums.{sum_by-cons}
use Rattle.points.specs.declared.memory.NoMemory.{NoMemory}
use Rattle.points.specs.Text.{IsWellFormed, mended}
use Rattle.points.proofs.MendingLemmas.{mended-well_formed}
use Rattle.machine.specs.declared.reads.Read.{Read}
use Rattle.machine.specs.declared.reads.Read.TheVariants as read
use Rattle.machine.specs.declared.reads.ReadAnswer.{ReadAnswer}
use Rattle.machine.specs.Answers.{Matches, read_answer}
use Rattle.machine.specs.Lawful.{is_pattern, answer_has_form, answers_have_forms, asked_in, told_after, AnswersAs, IsAsked}
use Rattle.search.specs.declared.found.Found.{Found}
use Rattle.search.specs.Answer.{FindsIn, answer_of, literal_answer}
use Rattle.sessions.specs.Rules.{is_own_read}
use Rattle.sessions.specs.Reading.{answer_in, IsRight, AreRight}

-- ---- one read

pub alone_right : (t : List ℕ) (told : List (Option Matches)) (r : Read) → is_own_read r ≡ true → is_pattern r ≡ false → IsRight t told told r (answer_in t r)
alone_right t told read.Size own alone = record { form = refl; right = λ more. refl; behind = λ more. refl }
alone_right t told (read.Text range limit) own alone = record { form = refl; right = λ more. refl; behind = λ more. refl }
alone_right t told (read.Find needle limit) own alone = record { form = refl; right = λ more. refl; behind = λ more. refl }
alone_right t told (read.Pattern pattern limit) own alone = absurd (false≢true (sym alone))
alone_right t told r own alone = absurd (false≢true own)

found_right : (t : List ℕ) (m : Option Matches) (pattern : List ℕ) (limit : ℕ) (f : Found) → FindsIn m t limit f → AnswersAs (read_answer t m (read.Pattern pattern limit)) (answer_of f)
found_right t None pattern limit f found = tt
found_right t (Some tells) pattern limit f found = found.answer_is ∙ rw found.told_are refl

pub pattern_right : (t : List ℕ) (told left : List (Option Matches)) (m : Option Matches) (pattern : List ℕ) (limit : ℕ) (f : Found) (a : ReadAnswer) → told ≡ m ∷ left → FindsIn m t limit f → a ≡ answer_of f → IsRight t told left (read.Pattern pattern limit) a
pattern_right t told left m pattern limit f a next found is = subst (λ x. IsRight t told left (read.Pattern pattern limit) x) (sym is) (subst (λ x. IsRight t x left (read.Pattern pattern limit) (answer_of f)) (sym next) (record {
  form = refl;
  right = λ more. found_right t m pattern limit f found;
  behind = λ more. refl;
}))

-- a well-formed text is its own mending
whole_mended : (t : List ℕ) → ∥ IsWellFormed t ∥₁ → mended t ≡ t
whole_mended t whole = ∥∥₁_elim whole (Coded-set (coded_list coded_ℕ) (mended t) t) (mended-well_formed t)

pub literal_done : (t : List ℕ) (limit : ℕ) (needle : List ℕ) (f : Found) (r : Result ReadAnswer NoMemory) → ∥ IsWellFormed t ∥₁ → answer_of f ≡ literal_answer (mended t) limit needle → IfOk r (λ a. a ≡ answer_of f)
    → IfOk r (λ a. a ≡ literal_answer t limit needle)
literal_done t limit needle f (Ok a) whole found is = is ∙ found ∙ ap (λ (x : List ℕ). literal_answer x limit needle) (whole_mended t whole)
literal_done t limit needle f (Err e) whole found is = is

-- ---- some reads

both_true : (a b : Bool) → a ≡ true → b ≡ true → (a && b) ≡ true
both_true a b p q = rw (p, q) refl

pub patterns_more : (r : Read) (rs : List Read) → count_by is_pattern (r ∷ rs) ≡ cond (is_pattern r) 1 0 + count_by is_pattern rs
patterns_more r rs = sum_by-cons (λ (x : Read). cond (is_pattern x) 1 0) r rs

drop_none : {X : Type 0} (n : ℕ) (xs : List X) → xs ≡ [] → drop n xs ≡ xs
drop_none zero xs none = refl
drop_none (suc n) [] none = refl
drop_none (suc n) (x ∷ xs) none = absurd cc

drop_by : {X : Type 0} (b : Bool) (n : ℕ) (xs : List X) → drop (cond b 1 0 + n) xs ≡ drop n (cond b (drop 1 xs) xs)
drop_by true n [] = let e : 1 + n ≡ suc n = omega arith in ap (λ k. drop k []) e ∙ sym (drop_none n [] refl)
drop_by true n (x ∷ xs) = let e : 1 + n ≡ suc n = omega arith in ap (λ k. drop k (x ∷ xs)) e
drop_by false n xs = let e : 0 + n ≡ n = omega arith in ap (λ k. drop k xs) e

module _ (t : List ℕ) where
  pub right_forms : (told left : List (Option Matches)) (rs : List Read) (answers : List ReadAnswer) → AreRight t told left rs answers → answers_have_forms rs answers ≡ true
  right_forms told left [] [] all = refl
  right_forms told left [] (a ∷ more) all = absurd all
  right_forms told left (r ∷ rs) [] all = absurd all
  right_forms told left (r ∷ rs) (a ∷ more) all = both_true (answer_has_form r a) (answers_have_forms rs more) all.1.form (right_forms all.0 left rs more all.2)

  pub right_asked : (told left : List (Option Matches)) (rs : List Read) (answers : List ReadAnswer) (others : List (Option Matches)) → AreRight t told left rs answers → AllByRecursion (IsAsked t) (asked_in (told ++ others) rs answers)
  right_asked told left [] [] others all = tt
  right_asked told left [] (a ∷ more) others all = absurd all
  right_asked told left (r ∷ rs) [] others all = absurd all
  right_asked told left (r ∷ rs) (a ∷ more) others all = (all.1.right others, subst (λ x. AllByRecursion (IsAsked t) (asked_in x rs more)) (sym (all.1.behind others)) (right_asked all.0 left rs more others all.2))

  pub right_left : (told left : List (Option Matches)) (rs : List Read) (answers : List ReadAnswer) (others : List (Option Matches)) → AreRight t told left rs answers → drop (count_by is_pattern rs) (told ++ others) ≡ left ++ others
  right_left told left [] [] others all = ap (λ x. x ++ others) all
  right_left told left [] (a ∷ more) others all = absurd all
  right_left told left (r ∷ rs) [] others all = absurd all
  right_left told left (r ∷ rs) (a ∷ more) others all =
      ap (λ n. drop n (told ++ others)) (patterns_more r rs) ∙ drop_by (is_pattern r) (count_by is_pattern rs) (told ++ others) ∙ ap (drop (count_by is_pattern rs)) (all.1.behind others) ∙ right_left all.0 left rs more others all.2

  -- some were answered, and these are left
  pub record Reading (told now : List (Option Matches)) (reads rest : List Read) (answers : List ReadAnswer) : Type 0 where
    pub onward : (left : List (Option Matches)) (more : List ReadAnswer) → AreRight t now left rest more → AreRight t told left reads (answers ++ more)

  pub reading_begun : (told : List (Option Matches)) (reads rest : List Read) (answers : List ReadAnswer) → rest ≡ reads → answers ≡ [] → Reading told told reads rest answers
  reading_begun told reads rest answers same none = subst (λ x. Reading told told reads x answers) (sym same) (subst (Reading told told reads reads) (sym none) (record { onward = λ left more all. all }))

  pub reading_next : (told now next : List (Option Matches)) (reads rest others : List Read) (r : Read) (answers longer : List ReadAnswer) (a : ReadAnswer) → rest ≡ r ∷ others → longer ≡ answers ++ a ∷ [] → IsRight t now next r a
      → Reading told now reads rest answers → Reading told next reads others longer
  reading_next told now next reads rest others r answers longer a is longer_is right so_far = subst (Reading told next reads others) (sym longer_is) (record {
    onward = λ left more all. subst (AreRight t told left reads) (sym (append_assoc answers (a ∷ []) more)) (so_far.onward left (a ∷ more) (subst (λ x. AreRight t now left x (a ∷ more)) (sym is) (next, right, all)));
  })

  pub reading_done : (told now : List (Option Matches)) (reads rest : List Read) (answers : List ReadAnswer) → rest ≡ [] → Reading told now reads rest answers → AreRight t told now reads answers
  reading_done told now reads rest answers none so_far = subst (AreRight t told now reads) (append-nil answers) (so_far.onward now [] (subst (λ x. AreRight t now now x []) (sym none) refl))

left_len : (b : Bool) (n : ℕ) (told left : List (Option Matches)) → cond b (drop 1 told) told ≡ left → cond b 1 0 + n ≤ length told → n ≤ length left
left_len true n [] left is enough = absurd (omega (arith, enough))
left_len true n (m ∷ told) left is enough = omega (arith, enough, ap length is)
left_len false n told left is enough = omega (arith, enough, ap length is)

-- the matchers suffice for what is left
pub enough_left : (t : List ℕ) (told left : List (Option Matches)) (r : Read) (rs : List Read) (a : ReadAnswer) → IsRight t told left r a → count_by is_pattern (r ∷ rs) ≤ length told → count_by is_pattern rs ≤ length left
enough_left t told left r rs a right enough =
    let is : told_after r told ≡ left = sym (ap (told_after r) (append-nil told)) ∙ right.behind [] ∙ append-nil left in
    let all : cond (is_pattern r) 1 0 + count_by is_pattern rs ≤ length told = omega (arith, enough, patterns_more r rs) in
    left_len (is_pattern r) (count_by is_pattern rs) told left is all

-- ---- a read at its place

pub rest_at : (rs : List Read) (i : ℕ) (r : Read) → i < length rs → r ≡ get_or rs i r → drop i rs ≡ r ∷ drop (i + 1) rs
rest_at [] i r low at = absurd (omega (arith, low))
rest_at (s ∷ ss) zero r low at = ap (λ x. x ∷ ss) (sym at)
rest_at (s ∷ ss) (suc i) r low at = let e : suc i + 1 ≡ suc (i + 1) = omega arith in rest_at ss i r (omega (arith, low)) at ∙ ap (λ k. r ∷ drop k (s ∷ ss)) (sym e)

pub own_at : (rs : List Read) (i : ℕ) (r : Read) → i < length rs → r ≡ get_or rs i r → list_all is_own_read rs ≡ true → is_own_read r ≡ true
own_at [] i r low at own = absurd (omega (arith, low))
own_at (s ∷ ss) zero r low at own = rw at (and_parts (is_own_read s) (list_all is_own_read ss) own).0
own_at (s ∷ ss) (suc i) r low at own = own_at ss i r (omega (arith, low)) at (and_parts (is_own_read s) (list_all is_own_read ss) own).1
