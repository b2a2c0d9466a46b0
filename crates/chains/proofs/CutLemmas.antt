-- The cuts of pieces: each stands behind the pieces before it.
use Rattle.std.proofs.Common.{◌≡◌, ℕ, zero, suc, ◌+◌, List, [], ◌∷◌, ◌++◌, length, take, drop, slice_get, unwrap_or, Option, Some, None, refl, sym, ap, ◌∙◌, arith, append_assoc, length-append}
use Rattle.std.proofs.lemmas.List.{append-nil}
use Rattle.points.specs.Place.{extent}
use Rattle.patch.proofs.Pieces.{Piece, old_of, new_of}
use Rattle.chains.specs.declared.spot.Spot.{Spot}
use Rattle.chains.specs.declared.overlay.Cut.{Cut}
use Rattle.chains.specs.Overlay.{end_of, cuts_of, puts_of, first_kept, first_new}

three : (a b c : List ℕ) → a ++ b ++ c ≡ a ++ (b ++ (c ++ []))
three a b c = append_assoc a b c ∙ ap (λ (xs : List ℕ). a ++ (b ++ xs)) (sym (append-nil c))

four : (a b c x : List ℕ) → a ++ b ++ c ++ x ≡ a ++ (b ++ (c ++ x))
four a b c x = append_assoc (a ++ b) c x ∙ append_assoc a b (c ++ x)

five : (a b c n k : List ℕ) → a ++ b ++ c ++ (n ++ k) ≡ a ++ ((b ++ (c ++ n)) ++ k)
five a b c n k = four a b c (n ++ k) ∙ ap (λ (xs : List ℕ). a ++ xs) (sym (append_assoc b (c ++ n) k ∙ ap (λ (xs : List ℕ). b ++ xs) (append_assoc c n k)))

pub same_cut : (c d : Cut) → Some c ≡ Some d → d ≡ c
same_cut c d e = sym (ap (λ (o : Option Cut). unwrap_or o c) e)

pub no_cut : (c : Cut) → None ≡ Some c → ⊥
no_cut c e = cc

-- the cut at place j of those of pieces: where it ends
pub record EndsBehind (a b : List ℕ) (ps : List Piece) (j : ℕ) (c : Cut) : Type 0 where
  pub old : c.old_end ≡ end_of (a ++ old_of (take (suc j) ps) [])
  pub new : c.new_end ≡ end_of (b ++ new_of (take (suc j) ps) [])

pub cut_ends : (a b put : List ℕ) (ps : List Piece) (j : ℕ) (c : Cut) → slice_get (cuts_of a b put ps) j ≡ Some c → EndsBehind a b ps j c
cut_ends a b put [] j c e = absurd (no_cut c e)
cut_ends a b put (p ∷ ps) zero c e = record {
  old = ap (λ (d : Cut). d.old_end) (same_cut _ c e) ∙ ap end_of (three a p.kept p.old);
  new = ap (λ (d : Cut). d.new_end) (same_cut _ c e) ∙ ap end_of (three b p.kept p.new);
}
cut_ends a b put (p ∷ ps) (suc j) c e = let h = cut_ends (a ++ p.kept ++ p.old) (b ++ p.kept ++ p.new) (put ++ p.new) ps j c e in record {
  old = h.old ∙ ap end_of (four a p.kept p.old (old_of (take (suc j) ps) []));
  new = h.new ∙ ap end_of (four b p.kept p.new (new_of (take (suc j) ps) []));
}

-- where it starts, and where its new units end and stand among those that are put in
pub record StartsBehind (a b put : List ℕ) (ps : List Piece) (tail : List ℕ) (j : ℕ) (c : Cut) : Type 0 where
  pub old : c.old ≡ end_of (a ++ (old_of (take j ps) [] ++ first_kept (drop j ps) tail))
  pub new : c.new ≡ end_of (b ++ (new_of (take j ps) [] ++ first_kept (drop j ps) tail))
  pub new_end : c.new_end ≡ end_of (b ++ (new_of (take j ps) [] ++ (first_kept (drop j ps) tail ++ first_new (drop j ps))))
  pub text : c.text ≡ length (put ++ puts_of (take j ps))

pub cut_starts : (a b put : List ℕ) (ps : List Piece) (tail : List ℕ) (j : ℕ) (c : Cut) → slice_get (cuts_of a b put ps) j ≡ Some c → StartsBehind a b put ps tail j c
cut_starts a b put [] tail j c e = absurd (no_cut c e)
cut_starts a b put (p ∷ ps) tail zero c e = record {
  old = ap (λ (d : Cut). d.old) (same_cut _ c e);
  new = ap (λ (d : Cut). d.new) (same_cut _ c e);
  new_end = ap (λ (d : Cut). d.new_end) (same_cut _ c e) ∙ ap end_of (append_assoc b p.kept p.new);
  text = ap (λ (d : Cut). d.text) (same_cut _ c e) ∙ ap length (sym (append-nil put));
}
cut_starts a b put (p ∷ ps) tail (suc j) c e = let h = cut_starts (a ++ p.kept ++ p.old) (b ++ p.kept ++ p.new) (put ++ p.new) ps tail j c e in record {
  old = h.old ∙ ap end_of (five a p.kept p.old (old_of (take j ps) []) (first_kept (drop j ps) tail));
  new = h.new ∙ ap end_of (five b p.kept p.new (new_of (take j ps) []) (first_kept (drop j ps) tail));
  new_end = h.new_end ∙ ap end_of (five b p.kept p.new (new_of (take j ps) []) (first_kept (drop j ps) tail ++ first_new (drop j ps)));
  text = h.text ∙ ap length (append_assoc put p.new (puts_of (take j ps)));
}

-- behind the last cut nothing follows
pub no_more : (a b put : List ℕ) (ps : List Piece) (j : ℕ) → slice_get (cuts_of a b put ps) j ≡ None → drop j ps ≡ []
no_more a b put [] zero e = refl
no_more a b put [] (suc j) e = refl
no_more a b put (p ∷ ps) zero e = absurd (let no : ⊥ = cc in no)
no_more a b put (p ∷ ps) (suc j) e = no_more (a ++ p.kept ++ p.old) (b ++ p.kept ++ p.new) (put ++ p.new) ps j e

pub puts-append : (f q : List Piece) → puts_of (f ++ q) ≡ puts_of f ++ puts_of q
puts-append [] q = refl
puts-append (p ∷ f) q = ap (λ (xs : List ℕ). p.new ++ xs) (puts-append f q) ∙ sym (append_assoc p.new (puts_of f) (puts_of q))
