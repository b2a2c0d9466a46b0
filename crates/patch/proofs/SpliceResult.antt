-- What a splice of a patch makes of it, for every text.
use Rattle.std.proofs.Common.{◌≡◌, ℕ, false, List, Result, Ok, Err, sym, ap, subst}
use Rattle.std.specs.Prelude.{IfErr, OnOk, OnErr}
use Rattle.std.specs.List.{All}
use Rattle.points.specs.declared.point.Point.{Point}
use Rattle.points.specs.Point.{origin}
use Rattle.patch.specs.Hunk.{Hunk, hunks_of}
use Rattle.patch.specs.ChangeList.{IsOrdered, IsPatch}
use Rattle.patch.specs.Spliced.{spliced}
use Rattle.patch.specs.Splicing.{CanSplice, IsSpliced, StandsForRun, KeepsLimits}
use Rattle.patch.specs.Stretches.{Refuses}
use Rattle.patch.specs.declared.change.Change.{Change}
use Rattle.patch.specs.declared.refusal.PatchRefusal.{PatchRefusal}
use Rattle.patch.proofs.GapLists.{IsGapList, gaps_of_patch}
use Rattle.patch.proofs.GapPieces.{all_ordered, patch_within}
use Rattle.patch.proofs.SpliceLemmas.{splice_is, splice_made}

module _ (p : List Hunk) (is_patch : IsPatch p) (start : Point) (deleted inserted : List ℕ) where
  -- the changes are those of the whole run, whatever the text
  pub is_spliced : IsSpliced p start deleted inserted (spliced p start deleted inserted)
  is_spliced s i end has = splice_is p (gaps_of_patch p is_patch) start end deleted inserted s i has.fits has.stands

  pub stands : StandsForRun p start deleted inserted (spliced p start deleted inserted)
  stands s i end has = let made = splice_made p (gaps_of_patch p is_patch) start end deleted inserted s i has.fits has.stands in (made.fit, made.tag_is)

  module _ (can : CanSplice p start deleted) where
    keeps : IsGapList (spliced p start deleted inserted)
    keeps = (splice_made p (gaps_of_patch p is_patch) start can.2 deleted inserted can.0 can.1 can.3.fits can.3.stands).keep

    pub ordered : All IsOrdered (spliced p start deleted inserted)
    ordered = all_ordered false origin origin (spliced p start deleted inserted) keeps

    pub new_patch : KeepsLimits (spliced p start deleted inserted) → IsPatch (spliced p start deleted inserted)
    new_patch within = patch_within (spliced p start deleted inserted) keeps within

-- the same for what the code answers, where the patch p is seen as the changes cs
module _ {X : Type 0} (p : List Hunk) (cs new : List Change) (seen : hunks_of cs ≡ p) (is_patch : IsPatch (hunks_of cs)) (start : Point) (deleted inserted : List ℕ) (r : Result X PatchRefusal)
    (ok : OnOk r (hunks_of new ≡ spliced (hunks_of cs) start deleted inserted)) where
  pub ok_run : OnOk r (IsSpliced p start deleted inserted (hunks_of new))
  ok_run = by_answer r ok
    where
      by_answer : (r : Result X PatchRefusal) → OnOk r (hunks_of new ≡ spliced (hunks_of cs) start deleted inserted) → OnOk r (IsSpliced p start deleted inserted (hunks_of new))
      by_answer (Ok x) ok = subst (IsSpliced p start deleted inserted) (sym ok) (subst (λ (hs : List Hunk). IsSpliced hs start deleted inserted (spliced (hunks_of cs) start deleted inserted)) seen (is_spliced (hunks_of cs) is_patch start deleted inserted))
      by_answer (Err e) ok = tt

  pub ok_stands : OnOk r (StandsForRun p start deleted inserted (hunks_of new))
  ok_stands = by_answer r ok
    where
      by_answer : (r : Result X PatchRefusal) → OnOk r (hunks_of new ≡ spliced (hunks_of cs) start deleted inserted) → OnOk r (StandsForRun p start deleted inserted (hunks_of new))
      by_answer (Ok x) ok = subst (StandsForRun p start deleted inserted) (sym ok) (subst (λ (hs : List Hunk). StandsForRun hs start deleted inserted (spliced (hunks_of cs) start deleted inserted)) seen (stands (hunks_of cs) is_patch start deleted inserted))
      by_answer (Err e) ok = tt

  pub ok_within : OnOk r (KeepsLimits (spliced (hunks_of cs) start deleted inserted)) → OnOk r (KeepsLimits (hunks_of new))
  ok_within within = by_answer r ok within
    where
      by_answer : (r : Result X PatchRefusal) → OnOk r (hunks_of new ≡ spliced (hunks_of cs) start deleted inserted) → OnOk r (KeepsLimits (spliced (hunks_of cs) start deleted inserted)) → OnOk r (KeepsLimits (hunks_of new))
      by_answer (Ok x) ok within = subst KeepsLimits (sym ok) within
      by_answer (Err e) ok within = tt

  pub stays_patch : CanSplice p start deleted → OnOk r (KeepsLimits (spliced (hunks_of cs) start deleted inserted)) → OnErr r (new ≡ cs) → IsPatch (hunks_of new)
  stays_patch can within kept = by_answer r ok within kept
    where
      by_answer : (r : Result X PatchRefusal) → OnOk r (hunks_of new ≡ spliced (hunks_of cs) start deleted inserted) → OnOk r (KeepsLimits (spliced (hunks_of cs) start deleted inserted)) → OnErr r (new ≡ cs) → IsPatch (hunks_of new)
      by_answer (Ok x) ok within kept = subst IsPatch (sym ok) (new_patch (hunks_of cs) is_patch start deleted inserted (subst (λ (hs : List Hunk). CanSplice hs start deleted) (sym seen) can) within)
      by_answer (Err e) ok within kept = subst IsPatch (ap hunks_of (sym kept)) is_patch

  pub err_cause : IfErr r (Refuses (spliced (hunks_of cs) start deleted inserted)) → IfErr r (λ e. (run : List Hunk) × IsSpliced p start deleted inserted run × Refuses run e)
  err_cause cause = by_answer r cause
    where
      by_answer : (r : Result X PatchRefusal) → IfErr r (Refuses (spliced (hunks_of cs) start deleted inserted)) → IfErr r (λ e. (run : List Hunk) × IsSpliced p start deleted inserted run × Refuses run e)
      by_answer (Ok x) cause = tt
      by_answer (Err e) cause = (spliced (hunks_of cs) start deleted inserted, subst (λ (hs : List Hunk). IsSpliced hs start deleted inserted (spliced (hunks_of cs) start deleted inserted)) seen (is_spliced (hunks_of cs) is_patch start deleted inserted), cause)
