-- Lists of changes, change by change: their sizes, copies of them, and the sides exchanged.
use Rattle.std.proofs.Common.{◌≡◌, ℕ, ◌+◌, ◌<◌, List, [], ◌∷◌, ◌++◌, length, take, get_or, map, sum_by, sym, ap, ◌∙◌, arith}
use Rattle.std.proofs.lemmas.List.{map_more, map-append}
use Rattle.std.proofs.lemmas.List.Sums.{sum_by-append}
use Rattle.patch.specs.Hunk.{Hunk, hunk_of, hunks_of, hunk_size, inverted}
use Rattle.patch.specs.declared.change.Change.{Change}

pub hunks_more : (cs : List Change) (i : ℕ) (c : Change) → i < length cs → c ≡ get_or cs i c → hunks_of (take (i + 1) cs) ≡ hunks_of (take i cs) ++ hunk_of c ∷ []
hunks_more cs i c within is = map_more hunk_of cs i c within ∙ ap (λ (x : Change). hunks_of (take i cs) ++ hunk_of x ∷ []) (sym is)

pub size_more : (cs : List Change) (i : ℕ) (c : Change) → i < length cs → c ≡ get_or cs i c → sum_by hunk_size (hunks_of (take (i + 1) cs)) ≡ sum_by hunk_size (hunks_of (take i cs)) + (length c.old_text + length c.new_text)
size_more cs i c within is = ap (sum_by hunk_size) (hunks_more cs i c within is) ∙ (sum_by-append hunk_size (hunks_of (take i cs)) (hunk_of c ∷ []) ∙ omega arith)

-- one change more was copied
pub copied_more : (cs : List Change) (i : ℕ) (c : Change) (copies new : List Change) (copy : Change) → i < length cs → c ≡ get_or cs i c → hunks_of copies ≡ hunks_of (take i cs) → hunk_of copy ≡ hunk_of c → new ≡ copies ++ copy ∷ [] → hunks_of new ≡ hunks_of (take (i + 1) cs)
copied_more cs i c copies new copy within is before same pushed = ap hunks_of pushed ∙ (map-append hunk_of copies (copy ∷ []) ∙ (ap (λ (hs : List Hunk). hs ++ hunk_of copy ∷ []) before ∙ (ap (λ (h : Hunk). hunks_of (take i cs) ++ h ∷ []) same ∙ sym (hunks_more cs i c within is))))

pub turned_more : (cs : List Change) (i : ℕ) (c : Change) (turned new : List Change) (copy : Change) → i < length cs → c ≡ get_or cs i c → hunks_of turned ≡ map inverted (hunks_of (take i cs)) → hunk_of copy ≡ inverted (hunk_of c) → new ≡ turned ++ copy ∷ [] → hunks_of new ≡ map inverted (hunks_of (take (i + 1) cs))
turned_more cs i c turned new copy within is before same pushed = ap hunks_of pushed ∙ (map-append hunk_of turned (copy ∷ []) ∙ (ap (λ (hs : List Hunk). hs ++ hunk_of copy ∷ []) before ∙ (ap (λ (h : Hunk). map inverted (hunks_of (take i cs)) ++ h ∷ []) same
    ∙ sym (ap (map inverted) (hunks_more cs i c within is) ∙ map-append inverted (hunks_of (take i cs)) (hunk_of c ∷ [])))))
