-- Where the hits of all patterns are told, no read is without them.
use Rattle.std.proofs.Common.{◌≡◌, ℕ, zero, suc, ◌+◌, ◌≤◌, List, [], ◌∷◌, ◌++◌, length, map, drop, cond, Bool, true, false, Option, None, subst, arith, inl, inr}
use Rattle.std.proofs.lemmas.Bool.{false≢true}
use Rattle.std.specs.Prelude.{◌⊎◌, IsSome, count_by, sum_by, if◌then◌else◌}
use Rattle.std.specs.List.{AllByRecursion}
use Rattle.std.proofs.lemmas.List.{length-drop}
use Rattle.std.proofs.lemmas.List.Sums.{sum_by-cons}
use Rattle.machine.specs.declared.command.Command.{Command}
use Rattle.machine.specs.declared.command.Command.TheVariants as command
use Rattle.machine.specs.declared.command.Script.{Script}
use Rattle.machine.specs.declared.reads.Read.{Read}
use Rattle.machine.specs.declared.reads.Read.TheVariants as read
use Rattle.machine.specs.declared.reads.ReadAnswer.{ReadAnswer}
use Rattle.machine.specs.declared.reply.Reply.{Reply}
use Rattle.machine.specs.declared.reply.Reply.TheVariants as reply
use Rattle.machine.specs.declared.reply.Transcript.{Transcript}
use Rattle.machine.specs.declared.verdict.Place.TheVariants as place
use Rattle.machine.specs.declared.verdict.Verdict.{Verdict}
use Rattle.machine.specs.declared.verdict.Verdict.TheVariants as verdict
use Rattle.machine.specs.Answers.{Matches, number_of}
use Rattle.machine.specs.Lawful.{Asked, Taking, is_pattern, next_told, told_after, asked_in, asked_of, reads_in, reads_of, is_through, answers_in, ends, patterns_in, patterns_of, with_number, with_taking, takings, all_takings}
use Rattle.machine.specs.FirstFault.{IsVerdict}
use Rattle.machine.proofs.OneSession.{all-append, all-map}
use Rattle.machine.proofs.OnlyPlain.{all-right}
use Rattle.snapshot_check.specs.Judged.{HasUntold}
use Rattle.transcript_check.specs.Found.{IsFound, AreAllTold}

abbrev AreTold : List (Option Matches) → Type 0
AreTold told = AllByRecursion (λ m. IsSome m) told

told-drop : (n : ℕ) (told : List (Option Matches)) → AreTold told → AreTold (drop n told)
told-drop zero told each = each
told-drop (suc n) [] each = each
told-drop (suc n) (m ∷ told) each = told-drop n told each.1

enough-drop : (k n : ℕ) (told : List (Option Matches)) → k + n ≤ length told → n ≤ length (drop k told)
enough-drop k n told h = omega (arith, h, length-drop k told)

told_behind : (r : Read) (told : List (Option Matches)) → AreTold told → AreTold (told_after r told)
told_behind (read.Pattern pattern limit) told each = told-drop 1 told each
told_behind _ told each = each

fewer_left : (r : Read) (told : List (Option Matches)) (n : ℕ) → cond (is_pattern r) 1 0 + n ≤ length told → n ≤ length (told_after r told)
fewer_left (read.Pattern pattern limit) told n h = enough-drop 1 n told h
fewer_left read.Size told n h = omega (arith, h)
fewer_left (read.Text range limit) told n h = omega (arith, h)
fewer_left (read.Find needle limit) told n h = omega (arith, h)
fewer_left (read.Save name encoding) told n h = omega (arith, h)

one_told : (r : Read) (told : List (Option Matches)) (n : ℕ) → cond (is_pattern r) 1 0 + n ≤ length told → AreTold told → is_pattern r ≡ true → next_told told ≡ None → ⊥
one_told r [] n h each is none_there = let h1 : 1 + n ≤ 0 = subst (λ (b : Bool). cond b 1 0 + n ≤ 0) is h in omega (arith, h1)
one_told r (m ∷ told) n h each is none_there = false≢true (subst (λ (o : Option Matches). IsSome o) none_there each.0)

reads_told : (told : List (Option Matches)) (rs : List Read) (as_ : List ReadAnswer) → count_by is_pattern rs ≤ length told → AreTold told → HasUntold (asked_in told rs as_) → ⊥
reads_told told [] as_ h each u = u
reads_told told (r ∷ rs) [] h each u = u
reads_told told (r ∷ rs) (a ∷ rest) h each u =
    let counted : cond (is_pattern r) 1 0 + count_by is_pattern rs ≤ length told = subst (λ n. n ≤ length told) (sum_by-cons (λ x. cond (is_pattern x) 1 0) r rs) h in
    elim u [
      | inl here ↦ one_told r told (count_by is_pattern rs) counted each here.0 here.1
      | inr later ↦ reads_told (told_after r told) rs rest (fewer_left r told (count_by is_pattern rs) counted) (told_behind r told each) later
    ]

untold-split : (xs ys : List Asked) → HasUntold (xs ++ ys) → HasUntold xs ⊎ HasUntold ys
untold-split [] ys u = inr u
untold-split (x ∷ xs) ys (inl u) = inl (inl u)
untold-split (x ∷ xs) ys (inr u) = elim (untold-split xs ys u) [
  | inl left ↦ inl (inr left)
  | inr right ↦ inr right
]

reads_few : (b : Bool) (reads : List Read) → count_by is_pattern (if b then reads else []) ≤ count_by is_pattern reads
reads_few true reads = omega arith
reads_few false reads = omega arith

none_by : (b : Bool) (xs : List Asked) → (HasUntold xs → ⊥) → HasUntold (if b then [] else xs) → ⊥
none_by true xs apart u = u
none_by false xs apart u = apart u

of_told : (k : ℕ) (told : List (Option Matches)) (cs : List Command) (rs : List Reply) → sum_by patterns_in cs ≤ length told → AreTold told → HasUntold (asked_of k told cs rs) → ⊥
of_told k told [] rs h each u = u
of_told k told (c ∷ cs) [] h each u = u
of_told k told (c ∷ cs) (r ∷ rs) h each u =
    let counted : patterns_in c + sum_by patterns_in cs ≤ length told = subst (λ n. n ≤ length told) (sum_by-cons patterns_in c cs) h in
    elim (untold-split (asked_in told (reads_of k c) (answers_in r)) _ u) [
      | inl here ↦ reads_told told (reads_of k c) (answers_in r) (omega (arith, counted, reads_few (is_through k c) (reads_in c))) each here
      | inr later ↦ none_by (ends k c) _ (of_told k (drop (patterns_in c) told) cs rs (enough-drop (patterns_in c) (sum_by patterns_in cs) told counted) (told-drop (patterns_in c) told each)) later
    ]

abbrev HasNoUntold : Taking → Type 0
HasNoUntold t = HasUntold t.asked → ⊥

taking_told : (c : Command) (r : Reply) (n : ℕ) (earlier : List ℕ) (told : List (Option Matches)) (cs : List Command) (rs : List Reply) (rest : List Taking) → sum_by patterns_in cs ≤ length told → AreTold told
    → AllByRecursion HasNoUntold rest → AllByRecursion HasNoUntold (with_taking c r n earlier told cs rs rest)
taking_told (command.Take k) (reply.Taken v) n earlier told cs rs rest h each all = (of_told k told cs rs h each, all)
taking_told _ _ n earlier told cs rs rest h each all = all

takings_told : (told : List (Option Matches)) (n : ℕ) (earlier : List ℕ) (cs : List Command) (rs : List Reply) → sum_by patterns_in cs ≤ length told → AreTold told → AllByRecursion HasNoUntold (takings told n earlier cs rs)
takings_told told n earlier [] rs h each = tt
takings_told told n earlier (c ∷ cs) [] h each = tt
takings_told told n earlier (c ∷ cs) (r ∷ rs) h each =
    let counted : patterns_in c + sum_by patterns_in cs ≤ length told = subst (λ n. n ≤ length told) (sum_by-cons patterns_in c cs) h in
    let left : sum_by patterns_in cs ≤ length (drop (patterns_in c) told) = enough-drop (patterns_in c) (sum_by patterns_in cs) told counted in
    let still : AreTold (drop (patterns_in c) told) = told-drop (patterns_in c) told each in
    taking_told c r n earlier (drop (patterns_in c) told) cs rs _ left still (takings_told (drop (patterns_in c) told) (n + 1) (earlier ++ with_number (number_of r) []) cs rs left still)

all_told : (told : List (Option Matches)) (k : ℕ) (ss : List (List Command)) (rr : List (List Reply)) → sum_by patterns_of ss ≤ length told → AreTold told → AllByRecursion (λ x. HasNoUntold x.1) (all_takings told k ss rr)
all_told told k [] rr h each = tt
all_told told k (cs ∷ ss) [] h each = tt
all_told told k (cs ∷ ss) (rs ∷ rr) h each =
    let counted : patterns_of cs + sum_by patterns_of ss ≤ length told = subst (λ n. n ≤ length told) (sum_by-cons patterns_of cs ss) h in
    all-append (λ (x : ℕ × Taking). HasNoUntold x.1) (map (λ (t : Taking). (k, t)) (takings told 1 [] cs rs)) _
    (all-map (λ (x : ℕ × Taking). HasNoUntold x.1) (λ (t : Taking). (k, t)) (takings told 1 [] cs rs) (takings_told told 1 [] cs rs (omega (arith, counted)) each))
    (all_told (drop (patterns_of cs) told) (k + 1) ss rr (enough-drop (patterns_of cs) (sum_by patterns_of ss) told counted) (told-drop (patterns_of cs) told each))

-- so what is found is the verdict
pub found_exact : (script : Script) (opening : List ℕ) (told : List (Option Matches)) (t : Transcript) (v : Verdict) → AreAllTold script told → IsFound script opening told t v → IsVerdict script opening told t v
found_exact script opening told t verdict.Lawful enough found = found
found_exact script opening told t (verdict.Unlawful place.Form) enough found = found
found_exact script opening told t (verdict.Unlawful (place.Call n)) enough found = found
found_exact script opening told t (verdict.Unlawful place.End) enough found = found
found_exact script opening told t (verdict.Unlawful (place.Snapshot session command)) enough found =
    let d = found.2 in
    let all : AllByRecursion (λ (x : ℕ × Taking). HasNoUntold x.1) (all_takings told 1 script.sessions t.sessions) = all_told told 1 script.sessions t.sessions enough.all enough.each in
    let apart : HasNoUntold d.taking = (all-right (λ (x : ℕ × Taking). HasNoUntold x.1) d.before ((session, d.taking) ∷ d.behind) (subst (AllByRecursion (λ (x : ℕ × Taking). HasNoUntold x.1)) d.split all)).0 in (
      found.0,
      found.1,
      record {
        before = d.before;
        taking = d.taking;
        behind = d.behind;
        split = d.split;
        at = d.at;
        lawful = d.lawful;
        fault = elim d.fault [
          | inl wrong ↦ wrong
          | inr u ↦ absurd (apart u)
        ];
      },
    )
