-- A tagged text as pieces: a stretch that stays, then units taken out and units put in, and what stays behind the last.
-- Read off the pieces, the gaps need no text: they are the runs of pieces with nothing between them, and each is joined.
use Rattle.std.proofs.Common.{◌≡◌, ℕ, suc, ◌+◌, ◌-◌, ◌==◌, List, [], ◌∷◌, ◌++◌, length, take, drop, cond, slice_range, Bool, true, false, ◌&&◌, refl, sym, ap, ◌∙◌, arith, append_assoc, length-append}
use Rattle.std.proofs.lemmas.List.{append-nil, drop_at, take_at}
use Rattle.points.specs.declared.point.Point.{Point}
use Rattle.points.specs.Point.{origin, traverse}
use Rattle.points.specs.Place.{extent, point_at}
use Rattle.points.proofs.ExtentLemmas.{extent-append}
use Rattle.patch.specs.Hunk.{Hunk}
use Rattle.patch.specs.Tagged.{Tagged, tagged_from, untagged, gap, gaps_from, gaps}
use Rattle.patch.specs.Spliced.{change_at}

pub record Piece : Type 0 where
  pub kept : List ℕ
  pub old : List ℕ
  pub new : List ℕ

-- no unit stays
abbrev pub is_none : List ℕ → Bool
is_none [] = true
is_none (u ∷ us) = false

-- each piece has something kept before it; each but the first; each has some unit in one of its two texts
abbrev pub AllApart : List Piece → Type 0
AllApart [] = Unit {0}
AllApart (p ∷ ps) = (is_none p.kept ≡ false) × AllApart ps

abbrev pub AllApartBehind : List Piece → Type 0
AllApartBehind [] = Unit {0}
AllApartBehind (p ∷ ps) = AllApart ps

abbrev pub AllSome : List Piece → Type 0
AllSome [] = Unit {0}
AllSome (p ∷ ps) = (((length p.old == 0) && (length p.new == 0)) ≡ false) × AllSome ps

-- the old text of pieces, where `tail` stays behind the last
abbrev pub old_of : List Piece → List ℕ → List ℕ
old_of [] tail = tail
old_of (p ∷ ps) tail = p.kept ++ (p.old ++ old_of ps tail)

-- the new text
abbrev pub new_of : List Piece → List ℕ → List ℕ
new_of [] tail = tail
new_of (p ∷ ps) tail = p.kept ++ (p.new ++ new_of ps tail)

-- the tagged text, which begins at offset i of the old one
abbrev pub tag_of : ℕ → List Piece → List ℕ → Tagged
tag_of i [] tail = tagged_from i tail
tag_of i (p ∷ ps) tail = tagged_from i p.kept ++ (untagged p.new ++ tag_of (i + length p.kept + length p.old) ps tail)

-- the changes that pieces make behind one that is still open: it starts at these points, and has these texts so far
abbrev pub changes_of : Point → Point → List ℕ → List ℕ → List Piece → List Hunk
changes_of a b old new [] = change_at a b old new
changes_of a b old new (p ∷ ps) = cond (is_none p.kept) (changes_of a b (old ++ p.old) (new ++ p.new) ps)
    (change_at a b old new ++ changes_of (traverse (traverse a (extent old)) (extent p.kept)) (traverse (traverse b (extent new)) (extent p.kept)) p.old p.new ps)

-- the texts of a stretch between these points: a change, or none where both are empty
abbrev pub made : Point → Point → Point → Point → List ℕ → List ℕ → List Hunk
made a a' b b' old new = cond ((length old == 0) && (length new == 0)) [] (record { old_start = a; old_end = a'; new_start = b; new_end = b'; old_text = old; new_text = new } ∷ [])

-- one gap, where the units of s that it takes are known
pub gap_is : (s before units after : List ℕ) (i j : ℕ) (new_before new : List ℕ) → s ≡ before ++ (units ++ after) → i ≡ length before → j ≡ i + length units
    → gap s i j new_before new ≡ change_at (extent before) (extent new_before) units new
gap_is s before units after i j new_before new s_is i_is j_is =
    ap (λ (x : Point). made x (point_at s j) (extent new_before) (extent (new_before ++ new)) (slice_range s i j) new) (ap extent (ap (take i) s_is ∙ take_at before (units ++ after) i (sym i_is)))
    ∙ (ap (λ (x : Point). made (extent before) x (extent new_before) (extent (new_before ++ new)) (slice_range s i j) new)
    (ap extent (ap (take j) (s_is ∙ sym (append_assoc before units after)) ∙ take_at (before ++ units) after j (length-append before units ∙ omega arith)) ∙ extent-append before units)
    ∙ (ap (λ (x : Point). made (extent before) (traverse (extent before) (extent units)) (extent new_before) x (slice_range s i j) new) (extent-append new_before new)
    ∙ ap (λ (x : List ℕ). made (extent before) (traverse (extent before) (extent units)) (extent new_before) (traverse (extent new_before) (extent new)) x new) range))
  where
    range : slice_range s i j ≡ units
    range = let n : j - i ≡ length units = omega arith in ap (λ (m : ℕ). take m (drop i s)) n
        ∙ (ap (λ (xs : List ℕ). take (length units) (drop i xs)) s_is ∙ (ap (take (length units)) (drop_at before (units ++ after) i (sym i_is)) ∙ take_at units after (length units) refl))

gap_none : (s : List ℕ) (i j : ℕ) (before : List ℕ) → i ≡ j → gap s i j before [] ≡ []
gap_none s i j before e = ap (λ (xs : List ℕ). made (point_at s i) (point_at s j) (extent before) (extent (before ++ [])) xs []) none
  where
    none : slice_range s i j ≡ []
    none = let n : j - i ≡ 0 = omega arith in ap (λ (m : ℕ). take m (drop i s)) n

-- units that are put in join the open stretch
untagged_run : (s : List ℕ) (i : ℕ) (before t n : List ℕ) (g : Tagged) → gaps_from s i before t (untagged n ++ g) ≡ gaps_from s i before (t ++ n) g
untagged_run s i before t [] g = ap (λ (xs : List ℕ). gaps_from s i before xs g) (sym (append-nil t))
untagged_run s i before t (u ∷ n) g = untagged_run s i before (t ++ u ∷ []) n g ∙ ap (λ (xs : List ℕ). gaps_from s i before xs g) (append_assoc t (u ∷ []) n)

-- units that stay make no change between them
kept_run : (s front units after : List ℕ) (k : ℕ) (b : List ℕ) (g : Tagged) → s ≡ front ++ (units ++ after) → k ≡ length front
    → gaps_from s k b [] (tagged_from k units ++ g) ≡ gaps_from s (k + length units) (b ++ units) [] g
kept_run s front [] after k b g s_is k_is = ap (λ (xs : List ℕ). gaps_from s k xs [] g) (sym (append-nil b)) ∙ ap (λ (n : ℕ). gaps_from s n (b ++ []) [] g) (omega arith)
kept_run s front (u ∷ us) after k b g s_is k_is =
    ap (λ (hs : List Hunk). hs ++ gaps_from s (k + 1) (b ++ [] ++ u ∷ []) [] (tagged_from (k + 1) us ++ g)) (gap_none s k k b refl)
    ∙ (kept_run s (front ++ u ∷ []) us after (k + 1) (b ++ [] ++ u ∷ []) g (s_is ∙ sym (append_assoc front (u ∷ []) (us ++ after))) (sym (length-append front (u ∷ []) ∙ omega arith))
    ∙ (ap (λ (xs : List ℕ). gaps_from s (k + 1 + length us) xs [] g) (ap (λ (xs : List ℕ). xs ++ u ∷ [] ++ us) (append-nil b) ∙ append_assoc b (u ∷ []) us)
    ∙ ap (λ (n : ℕ). gaps_from s n (b ++ u ∷ us) [] g) more))
  where
    more : k + 1 + length us ≡ k + length (u ∷ us)
    more = omega arith

-- what stays behind the last change makes none
rest_none : (s front units : List ℕ) (k : ℕ) (b : List ℕ) → s ≡ front ++ units → k ≡ length front → gaps_from s k b [] (tagged_from k units) ≡ []
rest_none s front units k b s_is k_is = ap (gaps_from s k b []) (sym (append-nil (tagged_from k units)))
    ∙ (kept_run s front units [] k b [] (s_is ∙ ap (λ (xs : List ℕ). front ++ xs) (sym (append-nil units))) k_is ∙ gap_none s (k + length units) (length s) (b ++ units) whole)
  where
    whole : k + length units ≡ length s
    whole = sym (ap length s_is ∙ (length-append front units ∙ omega arith))

-- the gaps behind an open stretch, where only what stays is left
gaps_tail : (s front old tail : List ℕ) (i j : ℕ) (before new : List ℕ) → s ≡ front ++ (old ++ tail) → i ≡ length front → j ≡ i + length old
    → gaps_from s i before new (tagged_from j tail) ≡ change_at (extent front) (extent before) old new
gaps_tail s front old [] i j before new s_is i_is j_is = gap_is s front old [] i (length s) before new s_is i_is (ap length s_is ∙ (length-append front (old ++ []) ∙ omega (arith, length-append old (let none : List ℕ = [] in none))))
gaps_tail s front old (u ∷ us) i j before new s_is i_is j_is =
    ap (λ (hs : List Hunk). gap s i j before new ++ hs) (rest_none s (front ++ (old ++ u ∷ [])) us (j + 1) (before ++ new ++ u ∷ []) (s_is ∙ regroup) (sym (length-append front (old ++ u ∷ []) ∙ omega (arith, length-append old (u ∷ [])))))
    ∙ (append-nil (gap s i j before new) ∙ gap_is s front old (u ∷ us) i j before new s_is i_is j_is)
  where
    regroup : front ++ (old ++ u ∷ us) ≡ front ++ (old ++ u ∷ []) ++ us
    regroup = ap (λ (xs : List ℕ). front ++ xs) (sym (append_assoc old (u ∷ []) us)) ∙ sym (append_assoc front (old ++ u ∷ []) us)

-- behind any open stretch the gaps of these pieces are read off them
abbrev pub ReadsGaps : List ℕ → List Piece → List ℕ → Type 0
ReadsGaps s ps tail = (front old : List ℕ) (i j : ℕ) (before new : List ℕ) → s ≡ front ++ (old ++ old_of ps tail) → i ≡ length front → j ≡ i + length old
    → gaps_from s i before new (tag_of j ps tail) ≡ changes_of (extent front) (extent before) old new ps

extent_three : (a b c : List ℕ) → extent (a ++ b ++ c) ≡ traverse (traverse (extent a) (extent b)) (extent c)
extent_three a b c = extent-append (a ++ b) c ∙ ap (λ (x : Point). traverse x (extent c)) (extent-append a b)

module _ (s : List ℕ) (p_old p_new : List ℕ) (ps : List Piece) (tail : List ℕ) (rest : ReadsGaps s ps tail) (front old : List ℕ) (i j : ℕ) (before new : List ℕ) (i_is : i ≡ length front) (j_is : j ≡ i + length old) where
  next_piece : (kept : List ℕ) → s ≡ front ++ (old ++ (kept ++ (p_old ++ old_of ps tail)))
      → gaps_from s i before new (tagged_from j kept ++ (untagged p_new ++ tag_of (j + length kept + length p_old) ps tail))
      ≡ cond (is_none kept) (changes_of (extent front) (extent before) (old ++ p_old) (new ++ p_new) ps)
      (change_at (extent front) (extent before) old new ++ changes_of (traverse (traverse (extent front) (extent old)) (extent kept)) (traverse (traverse (extent before) (extent new)) (extent kept)) p_old p_new ps)
  next_piece [] here = untagged_run s i before new p_new (tag_of (j + 0 + length p_old) ps tail)
      ∙ rest front (old ++ p_old) i (j + 0 + length p_old) before (new ++ p_new) (here ∙ ap (λ (xs : List ℕ). front ++ xs) (sym (append_assoc old p_old (old_of ps tail)))) i_is (omega (arith, length-append old p_old))
  next_piece (u ∷ us) here =
      ap (λ (hs : List Hunk). hs ++ gaps_from s (j + 1) (before ++ new ++ u ∷ []) [] (tagged_from (j + 1) us ++ (untagged p_new ++ G))) (gap_is s front old (u ∷ us ++ (p_old ++ old_of ps tail)) i j before new here i_is j_is)
      ∙ ap (λ (hs : List Hunk). change_at (extent front) (extent before) old new ++ hs) (kept_run s (front ++ (old ++ u ∷ [])) us (p_old ++ old_of ps tail) (j + 1) (before ++ new ++ u ∷ []) (untagged p_new ++ G) (here ∙ regroup) (sym (length-append front (old ++ u ∷ []) ∙ omega (arith, length-append old (u ∷ []))))
      ∙ (untagged_run s (j + 1 + length us) (before ++ new ++ u ∷ [] ++ us) [] p_new G
      ∙ (rest (front ++ old ++ u ∷ us) p_old (j + 1 + length us) (j + suc (length us) + length p_old) (before ++ new ++ u ∷ [] ++ us) p_new (here ∙ regroup_all)
      (sym (length-append (front ++ old) (u ∷ us) ∙ omega (arith, length-append front old))) (omega arith)
      ∙ (ap (λ (x : Point). changes_of x (extent (before ++ new ++ u ∷ [] ++ us)) p_old p_new ps) (extent_three front old (u ∷ us))
      ∙ ap (λ (x : Point). changes_of (traverse (traverse (extent front) (extent old)) (extent (u ∷ us))) x p_old p_new ps) (ap extent (append_assoc (before ++ new) (u ∷ []) us) ∙ extent_three before new (u ∷ us))))))
    where
      G : Tagged
      G = tag_of (j + suc (length us) + length p_old) ps tail

      regroup : front ++ (old ++ (u ∷ us ++ (p_old ++ old_of ps tail))) ≡ front ++ (old ++ u ∷ []) ++ (us ++ (p_old ++ old_of ps tail))
      regroup = ap (λ (xs : List ℕ). front ++ xs) (sym (append_assoc old (u ∷ []) (us ++ (p_old ++ old_of ps tail)))) ∙ sym (append_assoc front (old ++ u ∷ []) (us ++ (p_old ++ old_of ps tail)))

      regroup_all : front ++ (old ++ (u ∷ us ++ (p_old ++ old_of ps tail))) ≡ front ++ old ++ u ∷ us ++ (p_old ++ old_of ps tail)
      regroup_all = sym (append_assoc front old (u ∷ us ++ (p_old ++ old_of ps tail))) ∙ sym (append_assoc (front ++ old) (u ∷ us) (p_old ++ old_of ps tail))

-- the gaps of pieces, read off them with no text
pub gaps_pieces : (s : List ℕ) (ps : List Piece) (tail : List ℕ) → ReadsGaps s ps tail
gaps_pieces s [] tail front old i j before new s_is i_is j_is = gaps_tail s front old tail i j before new s_is i_is j_is
gaps_pieces s (p ∷ ps) tail front old i j before new s_is i_is j_is = next_piece s p.old p.new ps tail (gaps_pieces s ps tail) front old i j before new i_is j_is p.kept s_is

-- the gaps of a tagged text made of pieces
pub gaps_of_pieces : (s : List ℕ) (ps : List Piece) (tail : List ℕ) → s ≡ old_of ps tail → gaps s (tag_of 0 ps tail) ≡ changes_of origin origin [] [] ps
gaps_of_pieces s ps tail s_is = gaps_pieces s ps tail [] [] 0 0 [] [] s_is refl (omega arith)
