-- Seats that are dealt one by one.
use Rattle.std.proofs.Common.{◌≡◌, ℕ, zero, suc, ◌+◌, ◌<◌, ◌≢◌, true, nat_lt, List, [], ◌∷◌, ◌++◌, length, get_or, refl, sym, ap, ◌∙◌, arith, length-append}
use Rattle.std.proofs.lemmas.Bool.Decides.{nat_tests}
use mathlib.Core.Logic.{dite}
use native.Mathlib.Decide.{ℕ_discrete}
use Rattle.atomic_table.specs.Seated.{TableId}
use Rattle.atomic_table.specs.declared.badge.Badge.{Badge}
use Rattle.turn_table.specs.declared.view.View.{View}
use Rattle.turn_table.specs.Openings.{AreDealt}

read_before : {A : Type 0} (xs : List A) (y d : A) (k : ℕ) → k < length xs → get_or (xs ++ y ∷ []) k d ≡ get_or xs k d
read_before [] y d k h = absurd (omega arith)
read_before (x ∷ xs) y d zero h = refl
read_before (x ∷ xs) y d (suc k) h = read_before xs y d k (omega arith)

read_last : {A : Type 0} (xs : List A) (y d : A) (k : ℕ) → k ≡ length xs → get_or (xs ++ y ∷ []) k d ≡ y
read_last [] y d zero e = refl
read_last [] y d (suc k) e = absurd (omega arith)
read_last (x ∷ xs) y d zero e = absurd (omega arith)
read_last (x ∷ xs) y d (suc k) e = read_last xs y d k (omega arith)

module _ {T S : Type 0} (table : TableId) (at : ℕ → View T S) where
  pub none_dealt : (seats : List (Badge (View T S))) → seats ≡ [] → AreDealt table at 0 seats
  none_dealt seats e = record {
    len = ap length e;
    views = λ k d h. absurd (omega arith);
    tables = λ k d h. absurd (omega arith);
  }

  pub one_dealt : (n : ℕ) (seats : List (Badge (View T S))) (b : Badge (View T S)) → AreDealt table at n seats → b.views ≡ at n ∷ [] → b.table_id ≡ table → AreDealt table at (n + 1) (seats ++ b ∷ [])
  one_dealt n seats b all views tables = let long = all.len in record {
    len = length-append seats (b ∷ []) ∙ omega arith;
    views = λ k d h. dite (ℕ_discrete k n)
        (λ (e : k ≡ n). ap (λ (z : Badge (View T S)). z.views) (read_last seats b d k (omega arith)) ∙ (views ∙ ap (λ i. at i ∷ []) (sym e)))
        (λ (ne : k ≢ n). ap (λ (z : Badge (View T S)). z.views) (read_before seats b d k (omega arith)) ∙ all.views k d (omega arith));
    tables = λ k d h. dite (ℕ_discrete k n)
        (λ (e : k ≡ n). ap (λ (z : Badge (View T S)). z.table_id) (read_last seats b d k (omega arith)) ∙ tables)
        (λ (ne : k ≢ n). ap (λ (z : Badge (View T S)). z.table_id) (read_before seats b d k (omega arith)) ∙ all.tables k d (omega arith));
  }

pub below_true : (n k : ℕ) → n < k → nat_lt n k ≡ true
below_true n k h = grind (arith, nat_tests)
