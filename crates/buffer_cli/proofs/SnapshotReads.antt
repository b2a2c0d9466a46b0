-- Reads of a snapshot, answered one after another.
use Rattle.std.proofs.Common.{◌≡◌, ℕ, zero, suc, ◌+◌, ◌<◌, ◌≤◌, List, [], ◌∷◌, ◌++◌, length, take, drop, get_or, true, Option, sym, subst, ap, ◌∙◌, arith}
use Rattle.std.specs.Prelude.{count_by}
use Rattle.std.specs.List.{list_all}
use Rattle.std.proofs.lemmas.List.{take_more, take_all}
use Rattle.machine.specs.declared.reads.Read.{Read}
use Rattle.machine.specs.declared.reads.ReadAnswer.{ReadAnswer}
use Rattle.machine.specs.Answers.{Matches}
use Rattle.machine.specs.Lawful.{is_pattern}
use Rattle.buffer_cli.specs.Answered.{is_answered_read}
use Rattle.buffer_cli.specs.Hits.{AreAnswers}
use Rattle.buffer_cli.proofs.HitLemmas.{patterns_more, answers_more, found_left}
use Rattle.buffer_cli.proofs.RunLemmas.{both, rest_at}

-- the next read
pub answered_read_at : (n : ℕ) (rs : List Read) (i : ℕ) (r : Read) → i < length rs → r ≡ get_or rs i r → list_all (is_answered_read n) rs ≡ true → is_answered_read n r ≡ true
answered_read_at n [] i r within at all = absurd (omega (arith, within))
answered_read_at n (s ∷ ss) zero r within at all = rw at (both _ _ all).0
answered_read_at n (s ∷ ss) (suc i) r within at all = answered_read_at n ss i r (omega (arith, within)) at (both _ _ all).1

patterns_at : (rs : List Read) (i : ℕ) (r : Read) → i < length rs → r ≡ get_or rs i r → count_by is_pattern (drop i rs) ≡ count_by is_pattern (r ∷ []) + count_by is_pattern (drop (i + 1) rs)
patterns_at rs i r within at = omega (arith, ap (λ (xs : List Read). count_by is_pattern xs) (rest_at rs i r within at), patterns_more r (drop (i + 1) rs), patterns_more r [])

-- finds its matcher
pub enough_now : (rs : List Read) (i : ℕ) (r : Read) (n : ℕ) → i < length rs → r ≡ get_or rs i r → count_by is_pattern (drop i rs) ≤ n → count_by is_pattern (r ∷ []) ≤ n
enough_now rs i r n within at enough = omega (arith, enough, patterns_at rs i r within at)

module _ (t : List ℕ) where
  pub enough_next : (before after : List (Option Matches)) (rs : List Read) (i : ℕ) (r : Read) (a : ReadAnswer) → i < length rs → r ≡ get_or rs i r → AreAnswers t before after (r ∷ []) (a ∷ [])
      → count_by is_pattern (drop i rs) ≤ length before → count_by is_pattern (drop (i + 1) rs) ≤ length after
  enough_next before after rs i r a within at h enough = omega (arith, enough, patterns_at rs i r within at, found_left (count_by is_pattern (r ∷ [])) before after h.found h.hits)

  -- one more read was answered
  pub reads_next : (before between after : List (Option Matches)) (rs : List Read) (i : ℕ) (r : Read) (answers : List ReadAnswer) (a : ReadAnswer) → i < length rs → r ≡ get_or rs i r
      → AreAnswers t before between (take i rs) answers → AreAnswers t between after (r ∷ []) (a ∷ []) → AreAnswers t before after (take (i + 1) rs) (answers ++ a ∷ [])
  reads_next before between after rs i r answers a within at h k =
      let more : take (i + 1) rs ≡ take i rs ++ r ∷ [] = take_more rs i r within ∙ ap (λ (x : Read). take i rs ++ x ∷ []) (sym at) in
      subst (λ (xs : List Read). AreAnswers t before after xs (answers ++ a ∷ [])) (sym more) (answers_more t before between after (take i rs) r answers a h k)

  pub reads_all : (before after : List (Option Matches)) (rs : List Read) (i : ℕ) (answers : List ReadAnswer) → length rs ≤ i → AreAnswers t before after (take i rs) answers → AreAnswers t before after rs answers
  reads_all before after rs i answers past h = subst (λ (xs : List Read). AreAnswers t before after xs answers) (take_all i rs past) h
