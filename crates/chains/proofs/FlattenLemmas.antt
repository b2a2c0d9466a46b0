-- A text that is put together from its stretches.
use Rattle.std.proofs.Common.{◌≡◌, ℕ, ◌+◌, List, ◌++◌, length, take, slice_range, sym, ap, ◌∙◌, arith}
use Rattle.chains.proofs.EditLemmas.{take_more_slice}

-- a stretch more
pub joined_more : (t made part : List ℕ) (at : ℕ) → made ≡ take at t → slice_range t at (at + length part) ≡ part → made ++ part ≡ take (at + length part) t
joined_more t made part at made_is part_is = ap (λ (us : List ℕ). us ++ part) made_is
    ∙ (ap (λ (us : List ℕ). take at t ++ us) (sym part_is) ∙ sym (take_more_slice at (at + length part) t (omega arith)))
