-- The commands of a script that was read are those that a session answers.
use Rattle.std.proofs.Common.{◌≡◌, ◌≤◌, ℕ, List, [], ◌∷◌, length, length-append, true, refl, subst, ap, arith}
use Rattle.std.specs.Prelude.{count_by}
use Rattle.std.specs.List.{AllByRecursion, list_all}
use Rattle.std.proofs.lemmas.Bool.{and_from, false≢true}
use Rattle.std.proofs.lemmas.Bool.Decides.{nat_tests}
use Rattle.machine.specs.declared.command.Command.{Command}
use Rattle.machine.specs.declared.command.Command.TheVariants as command
use Rattle.machine.specs.declared.command.Script.{Script}
use Rattle.machine.specs.declared.reads.Read.{Read}
use Rattle.machine.specs.declared.reads.Read.TheVariants as read
use Rattle.machine.specs.Lawful.{reads_in}
use Rattle.machine.specs.Plain.{are_live}
use Rattle.script.specs.declared.limits.TheConstants.{MAX_COMMANDS, MAX_WATCHES}
use Rattle.script.specs.Limits.{has_built_word, has_needle, has_needles, is_watch, name_in, names_among, saved_names, IsWithinLimits}
use Rattle.buffer_cli.specs.Answered.{is_answered, is_answered_read, watches_in}
use Rattle.buffer_cli.specs.Saved.{names_saved}
use Rattle.buffer_cli.proofs.RunLemmas.{both}
use Rattle.buffer_cli.proofs.SavedLemmas.{names_of_one}

answered_read : (n : ℕ) (r : Read) → length (name_in r) ≤ n → has_needle r ≡ true → is_answered_read n r ≡ true
answered_read n (read.Save name encoding) few needle = grind (arith, nat_tests, few)
answered_read n r few needle = needle

answered_reads : (n : ℕ) (rs : List Read) → length (names_among rs) ≤ n → list_all has_needle rs ≡ true → list_all (is_answered_read n) rs ≡ true
answered_reads n [] few needles = refl
answered_reads n (r ∷ rs) few needles =
    let parts = length-append (name_in r) (names_among rs) in
    let h = both (has_needle r) (list_all has_needle rs) needles in
    and_from (is_answered_read n r) (list_all (is_answered_read n) rs) (answered_read n r (omega (arith, few, parts)) h.0) (answered_reads n rs (omega (arith, few, parts)) h.1)

answered_word : (n : ℕ) (c : Command) → length (names_among (reads_in c)) ≤ n → has_built_word c ≡ true → has_needles c ≡ true → is_answered n c ≡ true
answered_word n (command.Batch edits) few built needles = absurd (false≢true built)
answered_word n (command.Send k reads) few built needles = answered_reads n reads few needles
answered_word n (command.Read k reads) few built needles = answered_reads n reads few needles
answered_word n _ few built needles = refl

all_answered : (n : ℕ) (cs : List Command) → length (saved_names cs) ≤ n → AllByRecursion (λ c. has_built_word c ≡ true) cs → AllByRecursion (λ c. has_needles c ≡ true) cs → AllByRecursion (λ c. is_answered n c ≡ true) cs
all_answered n [] few all needles = all
all_answered n (c ∷ cs) few all needles =
    let parts = length-append (names_among (reads_in c)) (saved_names cs) in
    (answered_word n c (omega (arith, few, parts)) all.0 needles.0, all_answered n cs (omega (arith, few, parts)) all.1 needles.1)

-- what a session wants of its commands
pub record IsAnswerable (n : ℕ) (cs : List Command) : Type 0 where
  pub answered : AllByRecursion (λ c. is_answered n c ≡ true) cs
  pub live : are_live [] cs ≡ true
  pub watches : watches_in cs ≤ 64
  pub few : length cs ≤ MAX_COMMANDS

pub answerable : (n : ℕ) (s : Script) (commands : List Command) → s.sessions ≡ commands ∷ [] → n ≡ length (names_saved s.sessions) → IsWithinLimits s → IsAnswerable n commands
answerable n s commands one many limits = record {
  answered = all_answered n commands (omega (arith, many, ap length (names_of_one s.sessions commands one))) (subst (AllByRecursion (λ cs. AllByRecursion (λ c. has_built_word c ≡ true) cs)) one limits.built).0
      (subst (AllByRecursion (λ cs. AllByRecursion (λ c. has_needles c ≡ true) cs)) one limits.needles).0;
  live = (subst (AllByRecursion (λ cs. are_live [] cs ≡ true)) one limits.live).0;
  watches = (subst (AllByRecursion (λ cs. count_by is_watch cs ≤ MAX_WATCHES)) one limits.watches).0;
  few = (subst (AllByRecursion (λ cs. length cs ≤ MAX_COMMANDS)) one limits.commands).0;
}
