-- Threads before and after their run.
use Rattle.std.proofs.Common.{◌≡◌, ℕ, suc, zero, ◌<◌, List, [], ◌∷◌, length, Option, None, Some, sym, ap, subst, arith, refl}
use Rattle.std.specs.Prelude.{slice_index_or, MatchOption}
use Rattle.std.specs.List.{AllByRecursion}
use Rattle.pool.specs.declared.stage.Ready.{Ready}
use Rattle.pool.specs.declared.stage.Left.{Left}
use Rattle.pool.specs.declared.stage.Stage.{Stage}
use Rattle.pool.specs.Stages.{IsStage, IsPlayed, WasPlayed, AllPlayed, AreOf}

pub as_both : {X : Type 0} (P : X → X → Type 0) (a b x y : X) → a ≡ x → b ≡ y → P a b → P x y
as_both P a b x y e f p = subst (λ z. P x z) f (subst (λ z. P z b) e p)

pub all_at : {X : Type 0} (P : X → Type 0) (xs : List X) → AllByRecursion P xs → (k : ℕ) (d : X) → k < length xs → P (slice_index_or xs k d)
all_at P [] all k d low = absurd (omega (arith, low))
all_at P (x ∷ xs) all zero d low = all.0
all_at P (x ∷ xs) all (suc k) d low = all_at P xs all.1 k d (omega arith)

module _ {S T M K : Type 0} (P : Option S → Left T M K → Type 0) where
  played_by : (s : Option S) (r : Option (Ready S M K)) (l : Option (Left T M K)) → MatchOption r ⊥ (λ r. r.session ≡ s) → MatchOption r ⊥ (λ r. MatchOption l ⊥ (P r.session)) → MatchOption l ⊥ (P s)
  played_by s None l is was = absurd is
  played_by s (Some r) l is was = subst (λ z. MatchOption l ⊥ (P z)) is was

  -- the sessions stand at their threads again after the run
  pub all_played : (ss : List (Option S)) (xs ys : List (Stage S T M K)) → length ys ≡ length xs → ((k : ℕ) (d : Stage S T M K) → k < length xs → WasPlayed P (slice_index_or xs k d) (slice_index_or ys k d)) → AreOf ss xs → AllPlayed P ss ys
  all_played [] [] [] len each is = tt
  all_played (s ∷ ss) (x ∷ xs) (y ∷ ys) len each is = (played_by s x.ready y.left is.0 (each 0 x (omega arith)), all_played ss xs ys (omega (arith, len)) (λ k d low. each (suc k) d (omega arith)) is.1)
  all_played [] [] (y ∷ ys) len each is = absurd (omega (arith, len))
  all_played ss (x ∷ xs) [] len each is = absurd (omega (arith, len))
  all_played (s ∷ ss) [] ys len each is = absurd is
  all_played [] (x ∷ xs) ys len each is = absurd is

  pub none_played : (ss : List (Option S)) (xs : List (Stage S T M K)) → length xs ≡ 0 → AreOf ss xs → AllPlayed P ss xs
  none_played [] [] none is = tt
  none_played (s ∷ ss) [] none is = absurd is
  none_played ss (x ∷ xs) none is = absurd (omega (arith, none))
