-- What a pass over the calls sees, one call more.
use Rattle.std.proofs.Common.{◌≡◌, ℕ, ◌+◌, List, [], ◌∷◌, ◌++◌, length, get_or, Bool, false, Option, sym, ◌∙◌, ap, subst, arith, inl, inr, length-append}
use Rattle.std.proofs.lemmas.Bool.{cases_lt}
use Rattle.machine.specs.Machine.{State}
use Rattle.machine.specs.Answers.{Matches}
use Rattle.machine.specs.Lawful.{Entry, state_after}
use Rattle.snapshot_check.specs.Takes.{Spot, version_at, taking_of, AreLinked}
use Rattle.snapshot_check.specs.Judged.{IsJudged, AreJudged}
use Rattle.snapshot_check.proofs.LinkLemmas.{get_front, get_last}
use Rattle.transcript_check.specs.Found.{AreVersions, AreSettled, IsPassed}

pub versions_none : (s : State) (es : List Entry) (vs : List ℕ) → vs ≡ [] → AreVersions s es 0 vs
versions_none s es vs is = record { long = ap length is; each = λ m h. absurd (omega (arith, h)) }

pub versions_more : (s t : State) (es : List Entry) (n : ℕ) (vs more : List ℕ) → t ≡ state_after s es n → more ≡ vs ++ t.version ∷ [] → AreVersions s es n vs → AreVersions s es (n + 1) more
versions_more s t es n vs more here is a = record {
  long = ap length is ∙ (length-append vs (t.version ∷ []) ∙ ap (λ (k : ℕ). k + 1) a.long);
  each = λ m h. elim (cases_lt m n) [
    | inl under ↦ ap (λ (l : List ℕ). get_or l m 0) is ∙ (get_front vs t.version m (omega (arith, under, a.long)) ∙ a.each m under)
    | inr over ↦
        let e : m ≡ length vs = omega (arith, over, h, a.long) in
        let same : n ≡ m = omega (arith, over, h) in
        ap (λ (l : List ℕ). get_or l m 0) is ∙ (ap (λ (k : ℕ). get_or (vs ++ t.version ∷ []) k 0) e ∙ (get_last vs t.version ∙ (ap (λ (x : State). x.version) here ∙ ap (λ (k : ℕ). (state_after s es k).version) same)))
  ];
}

pub settled_none : (s : State) (es : List Entry) (told : List (Option Matches)) (spots : List Spot) (right : List Bool) → AreSettled s es told spots 0 right
settled_none s es told spots right = λ i h low. absurd (omega (arith, low))

pub settled_more : (s t : State) (es : List Entry) (told : List (Option Matches)) (spots : List Spot) (n : ℕ) (before right : List Bool) → t ≡ state_after s es n → AreJudged told spots t.text n 0 before right
    → AreSettled s es told spots n before → AreSettled s es told spots (n + 1) right
settled_more s t es told spots n before right here j settled = λ i h low x e. elim (cases_lt (version_at spots i) n) [
  | inl under ↦ subst (λ (b : Bool). IsJudged b (state_after s es (version_at spots i)).text (taking_of told x).asked) (sym (j.others i (λ (same : version_at spots i ≡ n). omega (arith, under, same)))) (settled i h under x e)
  | inr over ↦
      let same : version_at spots i ≡ n = omega (arith, over, low) in
      let text : t.text ≡ (state_after s es (version_at spots i)).text = ap (λ (y : State). y.text) (here ∙ ap (state_after s es) (sym same)) in
      subst (λ (u : List ℕ). IsJudged (get_or right i false) u (taking_of told x).asked) text (j.judged i (omega arith) h same x e)
]

-- the links of the versions up to the number of calls
pub linked_as : (spots : List Spot) (n m k : ℕ) (lasts nexts : List ℕ) → AreLinked spots n m lasts nexts → k ≡ n → AreLinked spots k m lasts nexts
linked_as spots n m k lasts nexts a e = subst (λ (x : ℕ). AreLinked spots x m lasts nexts) (sym e) a

-- after the last call
pub passed_all : (s t : State) (es : List Entry) (told : List (Option Matches)) (spots : List Spot) (i n : ℕ) (vs more : List ℕ) (before right : List Bool) → i ≡ length es → n ≡ i → t ≡ state_after s es i → more ≡ vs ++ t.version ∷ []
    → AreJudged told spots t.text n 0 before right → length before ≡ length spots → AreVersions s es i vs → AreSettled s es told spots i before → IsPassed s es told spots (length es + 1) more right
passed_all s t es told spots i n vs more before right all last here is j long versions settled =
    subst (λ (k : ℕ). IsPassed s es told spots (k + 1) more right) all (record {
      versions = versions_more s t es i vs more here is versions;
      right = settled_more s t es told spots i before right here (subst (λ (k : ℕ). AreJudged told spots t.text k 0 before right) last j) settled;
      long = j.long ∙ long;
    })

-- the judged takes, where other words are used for what is told
pub judged_with : (told other : List (Option Matches)) (spots : List Spot) (t : List ℕ) (n : ℕ) (before right : List Bool) → other ≡ told → AreJudged other spots t n 0 before right → AreJudged told spots t n 0 before right
judged_with told other spots t n before right e j = subst (λ (xs : List (Option Matches)). AreJudged xs spots t n 0 before right) e j
