-- Whether a hand's number is free.
use Rattle.std.proofs.Common.{◌≡◌, ℕ, ◌≤◌, Bool, false, cond, nat_lt, List, None, Some, ap, sym, subst, ◌∙◌, arith}
use Rattle.std.specs.Prelude.{slice_index_or}
use Rattle.std.proofs.lemmas.Bool.Decides.{nat_tests}
use Rattle.points.specs.declared.limits.TheConstants.{MAX_HANDS}
use Rattle.turn_table.specs.Meaning.{first_free}
use Rattle.shared_buffer.specs.Entries.{Shared, free_of, free_number}

not_below : (a : ℕ) → 32 ≤ a → nat_lt a 32 ≡ false
not_below a h = grind (arith, nat_tests)

pub no_room : (x : Shared) (out : List Bool) (n : ℕ) → x.out ≡ out → n ≡ first_free (λ k. slice_index_or out k false) MAX_HANDS 0 → 32 ≤ n → free_number x ≡ None
no_room x out n same is high =
    let e : free_of x ≡ n = ap (λ (row : List Bool). first_free (λ k. slice_index_or row k false) MAX_HANDS 0) same ∙ sym is in
    ap (λ b. cond b (Some (free_of x)) None) (not_below (free_of x) (subst (λ z. 32 ≤ z) (sym e) high))
