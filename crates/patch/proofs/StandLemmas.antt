-- What a patch stands for: no replacement at first, and one more after each splice.
use Rattle.std.proofs.Common.{◌≡◌, ℕ, ◌+◌, List, [], ◌∷◌, ◌++◌, length, Result, Ok, Err, refl, sym, subst, ap, ◌∙◌}
use Rattle.std.specs.Prelude.{OnOk}
use Rattle.std.proofs.lemmas.List.Elements.{All-nil}
use Rattle.points.specs.declared.point.Point.{Point}
use Rattle.patch.specs.Hunk.{Hunk}
use Rattle.patch.specs.Tagged.{Tagged, tagged, edited, run, gaps}
use Rattle.patch.specs.Fit.{HunkFits, tag}
use Rattle.patch.specs.Splicing.{IsSpliced, StandsForRun, StandsFor, StandsForMore}
use Rattle.patch.proofs.Pieces.{gaps_of_pieces}

-- the run with one replacement more
run_more : (g : Tagged) (edits : List (ℕ × ℕ × List ℕ)) (e : ℕ × ℕ × List ℕ) → run g (edits ++ e ∷ []) ≡ edited (run g edits) e.0 e.1 e.2
run_more g [] e = refl
run_more g (first ∷ edits) e = run_more (edited g first.0 first.1 first.2) edits e

-- the patch of no change stands for no replacement
pub none_stand : (p : List Hunk) → p ≡ [] → (s : List ℕ) → StandsFor p s []
none_stand p none s = subst (λ (hs : List Hunk). StandsFor hs s []) (sym none) (All-nil (HunkFits s), refl, gaps_of_pieces s [] s refl)

pub more_stand : (p : List Hunk) (start : Point) (deleted inserted : List ℕ) (result : List Hunk) → IsSpliced p start deleted inserted result → StandsForRun p start deleted inserted result
    → StandsForMore p start deleted inserted result
more_stand p start deleted inserted result spliced stands s edits i end for has =
    let more : run (tagged s) (edits ++ (i, i + length deleted, inserted) ∷ []) ≡ edited (tag p s) i (i + length deleted) inserted =
    run_more (tagged s) edits (i, i + length deleted, inserted) ∙ ap (λ (g : Tagged). edited g i (i + length deleted) inserted) (sym for.1) in
    ((stands s i end has).0, (stands s i end has).1 ∙ sym more, ap (gaps s) more ∙ spliced s i end has)

pub ok_more : {X E : Type 0} (r : Result X E) (p : List Hunk) (start : Point) (deleted inserted : List ℕ) (result : List Hunk) → OnOk r (IsSpliced p start deleted inserted result)
    → OnOk r (StandsForRun p start deleted inserted result) → OnOk r (StandsForMore p start deleted inserted result)
ok_more (Ok x) p start deleted inserted result spliced stands = more_stand p start deleted inserted result spliced stands
ok_more (Err e) p start deleted inserted result spliced stands = tt
