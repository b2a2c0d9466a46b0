-- The states after draws.
use Rattle.std.proofs.Common.{◌≡◌, ℕ, zero, suc, ◌+◌, ◌*◌, ◌%◌, refl, arith, ap, ◌∙◌, add-one, zero-add}
use Rattle.std.proofs.Math.Nat.{mul-suc}
use Rattle.generator.specs.Generator.{next_state, state_after}

-- a state after a draw
pub next_state_is : (x : ℕ) → next_state x ≡ (75 * x + 74) % 65537
unfolding next_state
next_state_is x = refl

-- some draws, and then others
pub state_after-add : (m n x : ℕ) → state_after (m + n) x ≡ state_after n (state_after m x)
state_after-add zero n x = rw (zero-add n) refl
state_after-add (suc m) n x =
    let e : suc m + n ≡ suc (m + n) = omega arith in
    rw e (state_after-add m n (next_state x))

-- the five draws of one more block
pub one_block_more : (e x : ℕ) → state_after (5 * (e + 1)) x ≡ state_after 5 (state_after (5 * e) x)
one_block_more e x =
    let e' : 5 * (e + 1) ≡ 5 * e + 5 = omega arith in
    rw e' (state_after-add (5 * e) 5 x)

-- the draws of one more session
pub one_session_more : (edits s x : ℕ) → state_after (5 * edits * (s + 1)) x ≡ state_after (5 * edits) (state_after (5 * edits * s) x)
one_session_more edits s x =
    let e' : 5 * edits * (s + 1) ≡ 5 * edits * s + 5 * edits = ap (λ n. 5 * edits * n) (add-one s) ∙ mul-suc (5 * edits) s in
    rw e' (state_after-add (5 * edits * s) (5 * edits) x)
