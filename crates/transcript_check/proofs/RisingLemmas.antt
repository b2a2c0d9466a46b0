-- Numbers that rise, tested one after the other.
use Rattle.std.proofs.Common.{◌≡◌, ℕ, zero, suc, ◌+◌, ◌<◌, ◌≤◌, List, [], ◌∷◌, length, drop, get_or, true, false, ◌&&◌, Option, Some, None, refl, sym, ◌∙◌, ap, subst, arith}
use Rattle.std.specs.Prelude.{nat_lt}
use Rattle.std.specs.Bool.{Decides}
use Rattle.std.specs.List.{AllByRecursion}
use Rattle.std.specs.List.Sorted.{IsStrictlyIncreasing}
use Rattle.std.proofs.lemmas.Bool.Decides.{Decides-at}
use Rattle.std.proofs.lemmas.List.{drop_all}
use Rattle.std.proofs.lemmas.Bool.{and_parts, and_from, ltb-true, lt-ltb}
use Rattle.machine.specs.declared.reply.Reply.{Reply}
use Rattle.machine.specs.Answers.{number_of}
use Rattle.machine.specs.Lawful.{with_number, numbers}
use Rattle.transcript_check.specs.Order.{is_above, rises}
use Rattle.snapshot_check.proofs.Dropped.{dropped}

rises_all : (m : ℕ) (ns : List ℕ) → rises (Some m) ns ≡ true → IsStrictlyIncreasing (m ∷ ns)
rises_all m [] is k h = absurd (omega (arith, h))
rises_all m (n ∷ ns) is zero h = ltb-true m n (and_parts (nat_lt m n) (rises (Some n) ns) is).0
rises_all m (n ∷ ns) is (suc k) h =
    let later : get_or (n ∷ ns) k 0 < get_or (n ∷ ns) (k + 1) 0 = rises_all n ns (and_parts (nat_lt m n) (rises (Some n) ns) is).1 k (omega (arith, h)) in
    let same : suc (k + 1) ≡ suc k + 1 = omega arith in
    subst (λ j. get_or (n ∷ ns) k 0 < get_or (m ∷ n ∷ ns) j 0) same later

pub tail_rises : (m : ℕ) (ns : List ℕ) → IsStrictlyIncreasing (m ∷ ns) → IsStrictlyIncreasing ns
tail_rises m ns all k h =
    let same : suc k + 1 ≡ suc (k + 1) = omega arith in
    subst (λ j. get_or ns k 0 < get_or (m ∷ ns) j 0) same (all (suc k) (omega (arith, h)))

all_rises : (m : ℕ) (ns : List ℕ) → IsStrictlyIncreasing (m ∷ ns) → rises (Some m) ns ≡ true
all_rises m [] all = refl
all_rises m (n ∷ ns) all = and_from (nat_lt m n) (rises (Some n) ns) (lt-ltb m n (all 0 (omega arith))) (all_rises n ns (tail_rises m (n ∷ ns) all))

pub rises_decides : (ns : List ℕ) → Decides (rises None ns) (IsStrictlyIncreasing ns)
rises_decides [] = (λ is k h. absurd (omega (arith, h)), λ all. refl)
rises_decides (n ∷ ns) = (rises_all n ns, all_rises n ns)

-- one reply more, which has a number or none
pub numbers_at : (rs : List Reply) (i : ℕ) (r : Reply) → i < length rs → r ≡ get_or rs i r → numbers (drop i rs) ≡ with_number (number_of r) (numbers (drop (i + 1) rs))
numbers_at rs i r within is = ap numbers (dropped rs i r within is)

-- the test of all lists, as a loop goes on with it
pub all_parts : {X : Type 0} (P : X → Type 0) (xs : List X) (i : ℕ) (x : X) → i < length xs → x ≡ get_or xs i x → AllByRecursion P (drop i xs) → P x × AllByRecursion P (drop (i + 1) xs)
all_parts P xs i x within is all = subst (AllByRecursion P) (dropped xs i x within is) all

pub all_from : {X : Type 0} (P : X → Type 0) (xs : List X) (i : ℕ) (x : X) → i < length xs → x ≡ get_or xs i x → P x → AllByRecursion P (drop (i + 1) xs) → AllByRecursion P (drop i xs)
all_from P xs i x within is here rest = subst (AllByRecursion P) (sym (dropped xs i x within is)) (here, rest)

-- the test, as a loop goes on with it
pub rise_fault : (rs : List Reply) (i : ℕ) (r : Reply) (last : Option ℕ) (n : ℕ) → i < length rs → r ≡ get_or rs i r → Some n ≡ number_of r → is_above n last ≡ false
    → rises None (numbers rs) ≡ rises last (numbers (drop i rs)) → Decides false (IsStrictlyIncreasing (numbers rs))
rise_fault rs i r last n within is number below so_far =
    let left : numbers (drop i rs) ≡ n ∷ numbers (drop (i + 1) rs) = numbers_at rs i r within is ∙ ap (λ o. with_number o (numbers (drop (i + 1) rs))) (sym number) in
    let fails : false ≡ rises None (numbers rs) = sym (so_far ∙ ap (rises last) left ∙ ap (λ b. b && rises (Some n) (numbers (drop (i + 1) rs))) below) in
    Decides-at false (rises None (numbers rs)) fails (rises_decides (numbers rs))

pub rise_end : (rs : List Reply) (i : ℕ) (last : Option ℕ) → length rs ≤ i → rises None (numbers rs) ≡ rises last (numbers (drop i rs)) → Decides true (IsStrictlyIncreasing (numbers rs))
rise_end rs i last over so_far =
    let holds : true ≡ rises None (numbers rs) = sym (so_far ∙ ap (λ l. rises last (numbers l)) (drop_all i rs over)) in
    Decides-at true (rises None (numbers rs)) holds (rises_decides (numbers rs))
