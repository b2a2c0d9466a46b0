-- Tasks that are done.
use Rattle.std.specs.Prelude.{◌≡◌, ℕ, List, map, Option, Some, None}
use Rattle.outer.specs.Matcher.{ToldHits}
use Rattle.shared_buffer.specs.declared.snapshot.Snapshot.{Snapshot}
use Rattle.answers.specs.declared.answer.Answer.{Answer}
use Rattle.answers.specs.Asks.{Ask, ask, AreAnswers, all_refused}
use Rattle.workers.specs.declared.done.Done.{Done}
use Rattle.workers.specs.Tasks.{Request}

module _ {K : Type 0} (taken : K → Option (List ℕ)) (faults : K → ℕ) where
  -- with the snapshot's version, right answers on its text; with none, no memory for each read
  abbrev pub Answers : Snapshot → List Ask → Option ℕ → List (Answer K) → Type 0
  Answers front asks (Some version) answers = (version ≡ front.version) × AreAnswers taken faults front.reader.text asks answers
  Answers front asks None answers = answers ≡ all_refused asks

module _ {M K : Type 0} (tells : M → Option ToldHits) (taken : K → Option (List ℕ)) (faults : K → ℕ) where
  -- it has its task's numbers, and the answers to what the task asks
  pub record IsDone (d : Done M K) : Type 0 where
    pub session : d.session ≡ d.task.value.session
    pub number : d.number ≡ d.task.value.number
    pub answers : Answers taken faults d.task.value.front (map (ask tells taken faults) d.task.value.reads) d.version d.answers.items
