-- Tests of two lists pair by pair, as a loop goes on with them.
use Rattle.std.proofs.Common.{◌≡◌, ℕ, ◌+◌, ◌<◌, ◌≤◌, List, [], ◌∷◌, length, drop, get_or, Bool, true, false, ◌&&◌, refl, sym, ◌∙◌, ap}
use Rattle.std.specs.Cmp.Lexicographic.{pointwise, as_long}
use Rattle.std.proofs.lemmas.Bool.{false_from_ne_true}
use Rattle.std.proofs.lemmas.List.{drop_all}
use Rattle.snapshot_check.proofs.Dropped.{dropped}
use Rattle.machine.specs.declared.command.Command.{Command}
use Rattle.machine.specs.declared.reads.Read.{Read}
use Rattle.machine.specs.declared.reads.ReadAnswer.{ReadAnswer}
use Rattle.machine.specs.declared.reply.Reply.{Reply}
use Rattle.machine.specs.Lawful.{answer_has_form, answers_have_forms, has_form, have_forms, sessions_have_forms}

module _ {A B : Type 0} (E : A → B → Bool) (F : List A → List B → Bool) (same : (xs : List A) (ys : List B) → F xs ys ≡ pointwise E xs ys) where
  pub pairs_long : (xs : List A) (ys : List B) → F xs ys ≡ true → length xs ≡ length ys
  pairs_long xs ys is = as_long E xs ys (sym (same xs ys) ∙ is)

  pub pairs_other : (xs : List A) (ys : List B) → (length xs ≡ length ys → ⊥) → false ≡ F xs ys
  pairs_other xs ys apart = sym (false_from_ne_true (F xs ys) (λ is. apart (pairs_long xs ys is)))

  pub pairs_at : (xs : List A) (ys : List B) (i : ℕ) (x : A) (y : B) → i < length xs → i < length ys → x ≡ get_or xs i x → y ≡ get_or ys i y
      → F (drop i xs) (drop i ys) ≡ (E x y && F (drop (i + 1) xs) (drop (i + 1) ys))
  pairs_at xs ys i x y a b left right = same (drop i xs) (drop i ys)
      ∙ ap (λ l. pointwise E l (drop i ys)) (dropped xs i x a left) ∙ ap (λ l. pointwise E (x ∷ drop (i + 1) xs) l) (dropped ys i y b right)
      ∙ ap (λ r. E x y && r) (sym (same (drop (i + 1) xs) (drop (i + 1) ys)))

  pub pairs_more : (xs : List A) (ys : List B) (i : ℕ) (x : A) (y : B) → i < length xs → i < length ys → x ≡ get_or xs i x → y ≡ get_or ys i y
      → true ≡ E x y → F xs ys ≡ F (drop i xs) (drop i ys) → F xs ys ≡ F (drop (i + 1) xs) (drop (i + 1) ys)
  pairs_more xs ys i x y a b left right holds so_far = so_far ∙ pairs_at xs ys i x y a b left right ∙ ap (λ r. r && F (drop (i + 1) xs) (drop (i + 1) ys)) (sym holds)

  pub pairs_fault : (xs : List A) (ys : List B) (i : ℕ) (x : A) (y : B) → i < length xs → i < length ys → x ≡ get_or xs i x → y ≡ get_or ys i y
      → false ≡ E x y → F xs ys ≡ F (drop i xs) (drop i ys) → false ≡ F xs ys
  pairs_fault xs ys i x y a b left right fails so_far = sym (so_far ∙ pairs_at xs ys i x y a b left right ∙ ap (λ r. r && F (drop (i + 1) xs) (drop (i + 1) ys)) (sym fails))

  pub pairs_end : (xs : List A) (ys : List B) (i : ℕ) → length xs ≤ i → length ys ≤ i → F xs ys ≡ F (drop i xs) (drop i ys) → true ≡ F xs ys
  pairs_end xs ys i a b so_far = sym (so_far ∙ ap (λ l. F l (drop i ys)) (drop_all i xs a) ∙ ap (λ l. F [] l) (drop_all i ys b) ∙ same [] [])

pub answers_pairs : (rs : List Read) (as_ : List ReadAnswer) → answers_have_forms rs as_ ≡ pointwise answer_has_form rs as_
answers_pairs [] [] = refl
answers_pairs [] (a ∷ rest) = refl
answers_pairs (r ∷ rs) [] = refl
answers_pairs (r ∷ rs) (a ∷ rest) = ap (λ b. answer_has_form r a && b) (answers_pairs rs rest)

pub replies_pairs : (version : ℕ) (cs : List Command) (rs : List Reply) → have_forms version cs rs ≡ pointwise (has_form version) cs rs
replies_pairs version [] [] = refl
replies_pairs version [] (r ∷ rs) = refl
replies_pairs version (c ∷ cs) [] = refl
replies_pairs version (c ∷ cs) (r ∷ rs) = ap (λ b. has_form version c r && b) (replies_pairs version cs rs)

pub sessions_pairs : (version : ℕ) (ss : List (List Command)) (rs : List (List Reply)) → sessions_have_forms version ss rs ≡ pointwise (have_forms version) ss rs
sessions_pairs version [] [] = refl
sessions_pairs version [] (r ∷ rs) = refl
sessions_pairs version (c ∷ cs) [] = refl
sessions_pairs version (c ∷ cs) (r ∷ rs) = ap (λ b. have_forms version c r && b) (sessions_pairs version cs rs)
