-- What the takes that were looked at in script order say of the transcript.
use Rattle.std.proofs.Common.{◌≡◌, ℕ, suc, ◌+◌, ◌<◌, ◌≤◌, List, [], ◌∷◌, ◌++◌, length, map, take, drop, get_or, Bool, Option, refl, sym, ◌∙◌, ap, subst, arith, take-append-drop}
use Rattle.std.specs.List.{AllByRecursion}
use Rattle.std.proofs.lemmas.List.{get_or-take, map-append, length-take}
use Rattle.machine.specs.declared.command.Script.{Script}
use Rattle.machine.specs.declared.reply.Transcript.{Transcript}
use Rattle.machine.specs.declared.verdict.Place.{Place}
use Rattle.machine.specs.declared.verdict.Verdict.TheVariants as verdict
use Rattle.machine.specs.declared.verdict.Place.TheVariants as place
use Rattle.machine.specs.Machine.{opened}
use Rattle.machine.specs.Answers.{Matches}
use Rattle.machine.specs.Lawful.{Entry, entries, Taking, all_takings, HasForm, CallsAgree, IsTakingLawful}
use Rattle.machine.specs.FirstFault.{IsFirstCall, TakesAreLawful, EndIsLawful}
use Rattle.machine.proofs.OneSession.{all-map}
use Rattle.snapshot_check.specs.Takes.{Spot, taking_of, placed}
use Rattle.snapshot_check.specs.Showing.{AreGood, IsNamed}
use Rattle.snapshot_check.proofs.Dropped.{dropped}
use Rattle.transcript_check.specs.Found.{IsFirstDoubt, IsFound, IsPassed}
use Rattle.transcript_check.proofs.VersionLemmas.{known}
use Rattle.transcript_check.proofs.ShownLemmas.{good_lawful, bad_doubtful}

-- a fact of each element by its place
each_all : {X : Type 0} (P : X → Type 0) (xs : List X) → ((i : ℕ) (x : X) → i < length xs → x ≡ get_or xs i x → P x) → AllByRecursion P xs
each_all P [] each = tt
each_all P (x ∷ xs) each = (each 0 x (omega arith) refl, each_all P xs (λ i y h e. each (suc i) y (omega (arith, h)) e))

module _ (version : ℕ) (opening : List ℕ) (es : List Entry) (told : List (Option Matches)) (spots : List Spot) (vs : List ℕ) (right : List Bool) (agree : CallsAgree version (opened opening) es) (passed : IsPassed (opened opening) es told spots (length es + 1) vs right) where
  abbrev IsFine : Spot → Type 0
  IsFine x = IsTakingLawful (opened opening) es (taking_of told x)

  fine_at : (m i : ℕ) (x : Spot) → m ≤ length spots → AreGood vs right spots m → i < m → x ≡ get_or spots i x → IsFine x
  fine_at m i x few good h at = let g = good i x h at in
      good_lawful opening es vs (known version opening es agree) passed.versions told x spots right i (omega (arith, h, few)) at passed.right g.0 g.1

  front_fine : (m : ℕ) → m ≤ length spots → AreGood vs right spots m → AllByRecursion (λ y. IsTakingLawful (opened opening) es y.1) (map (placed told) (take m spots))
  front_fine m few good = all-map (λ (y : ℕ × Taking). IsTakingLawful (opened opening) es y.1) (placed told) (take m spots) (each_all IsFine (take m spots)
      (λ i x h e. let under : i < m = omega (arith, h, length-take m spots) in fine_at m i x few good under (e ∙ get_or-take m spots i x under)))

  pub all_fine : AreGood vs right spots (length spots) → AllByRecursion (λ y. IsTakingLawful (opened opening) es y.1) (map (placed told) spots)
  all_fine good = all-map (λ (y : ℕ × Taking). IsTakingLawful (opened opening) es y.1) (placed told) spots (each_all IsFine spots (λ i x h e. fine_at (length spots) i x (omega arith) good h e))

  pub first_doubt : (p : Place) (total : List (ℕ × Taking)) → total ≡ map (placed told) spots → (n : IsNamed vs right spots p) → IsFirstDoubt (opened opening) es total n.spot.session (n.spot.place + 1)
  first_doubt p total is n = record {
    before = map (placed told) (take n.index spots);
    taking = taking_of told n.spot;
    behind = map (placed told) (drop (n.index + 1) spots);
    split = is ∙ (ap (map (placed told)) (sym (take-append-drop n.index spots) ∙ ap (λ (l : List Spot). take n.index spots ++ l) (dropped spots n.index n.spot n.within n.at))
        ∙ map-append (placed told) (take n.index spots) (n.spot ∷ drop (n.index + 1) spots));
    at = refl;
    lawful = front_fine n.index (omega (arith, n.within)) n.before;
    fault = bad_doubtful opening es vs (known version opening es agree) passed.versions told n.spot spots right n.index n.within n.at passed.right n.fails;
  }

-- ---- the verdicts
pub doubt_found : (script : Script) (opening : List ℕ) (told : List (Option Matches)) (t : Transcript) (es : List Entry) (spots : List Spot) (vs : List ℕ) (right : List Bool) (p : Place) → HasForm script t → es ≡ entries script.sessions t.sessions
    → CallsAgree script.version (opened opening) es → IsPassed (opened opening) es told spots (length es + 1) vs right → all_takings told 1 script.sessions t.sessions ≡ map (placed told) spots → IsNamed vs right spots p
    → IsFound script opening told t (verdict.Unlawful p)
doubt_found script opening told t es spots vs right p form is agree passed listed n =
    subst (λ (q : Place). IsFound script opening told t (verdict.Unlawful q)) (sym n.named) (
      form,
      subst (CallsAgree script.version (opened opening)) is agree,
      subst (λ (xs : List Entry). IsFirstDoubt (opened opening) xs (all_takings told 1 script.sessions t.sessions) n.spot.session (n.spot.place + 1)) is
          (first_doubt script.version opening es told spots vs right agree passed p (all_takings told 1 script.sessions t.sessions) listed n),
    )

pub takes_found : (script : Script) (opening : List ℕ) (told : List (Option Matches)) (t : Transcript) (es : List Entry) (spots : List Spot) (vs : List ℕ) (right : List Bool) → es ≡ entries script.sessions t.sessions
    → CallsAgree script.version (opened opening) es → IsPassed (opened opening) es told spots (length es + 1) vs right → all_takings told 1 script.sessions t.sessions ≡ map (placed told) spots → AreGood vs right spots (length spots)
    → TakesAreLawful script opening told t
takes_found script opening told t es spots vs right is agree passed listed good =
    subst (λ (xs : List Entry). AllByRecursion (λ (y : ℕ × Taking). IsTakingLawful (opened opening) xs y.1) (all_takings told 1 script.sessions t.sessions)) is
    (subst (AllByRecursion (λ (y : ℕ × Taking). IsTakingLawful (opened opening) es y.1)) (sym listed) (all_fine script.version opening es told spots vs right agree passed good))

pub call_found : (script : Script) (opening : List ℕ) (told : List (Option Matches)) (t : Transcript) (es : List Entry) (n : ℕ) → HasForm script t → es ≡ entries script.sessions t.sessions → IsFirstCall script.version (opened opening) es n
    → IsFound script opening told t (verdict.Unlawful (place.Call n))
call_found script opening told t es n form is first = (form, subst (λ (xs : List Entry). IsFirstCall script.version (opened opening) xs n) is first)

pub lawful_found : (script : Script) (opening : List ℕ) (told : List (Option Matches)) (t : Transcript) (es : List Entry) → HasForm script t → es ≡ entries script.sessions t.sessions → CallsAgree script.version (opened opening) es → TakesAreLawful script opening told t
    → EndIsLawful script opening t → IsFound script opening told t verdict.Lawful
lawful_found script opening told t es form is agree takes end = record { form = form; call = subst (CallsAgree script.version (opened opening)) is agree; snapshot = takes; end = end }

pub end_found : (script : Script) (opening : List ℕ) (told : List (Option Matches)) (t : Transcript) (es : List Entry) → HasForm script t → es ≡ entries script.sessions t.sessions → CallsAgree script.version (opened opening) es → TakesAreLawful script opening told t
    → (EndIsLawful script opening t → ⊥) → IsFound script opening told t (verdict.Unlawful place.End)
end_found script opening told t es form is agree takes wrong = (form, subst (CallsAgree script.version (opened opening)) is agree, takes, wrong)
