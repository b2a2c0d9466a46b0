-- A session's run, as any history has it that goes on from what its desk has seen.
use Rattle.std.proofs.Common.{◌≡◌, ℕ, ◌<◌, List, [], ◌∷◌, ◌++◌, map, Option, refl, sym, ◌∙◌, ap}
use Rattle.std.specs.List.{AllByRecursion}
use Rattle.machine.specs.declared.command.Command.{Command}
use Rattle.machine.specs.declared.reply.Reply.{Reply}
use Rattle.machine.specs.Answers.{Matches}
use Rattle.machine.specs.Lawful.{takings}
use Rattle.turn_table.specs.History.{calls_under}
use Rattle.turn_table.specs.Openings.{new_desk}
use Rattle.turn_table.proofs.HistoryLemmas.{prefix_trans}
use Rattle.shared_buffer.specs.Tokens.{Known, Opening, rules, IsInformed}
use Rattle.sessions.specs.Gathered.{told_of, HasFront}
use Rattle.sessions.specs.Running.{IsRun}
use Rattle.sessions.specs.Laws.{RunIsPlayed}
use Rattle.sessions.proofs.Playing.{Did, did, own_is}

all_to : {X : Type 0} (P Q : X → Type 0) (xs : List X) → ((x : X) → P x → Q x) → AllByRecursion P xs → AllByRecursion Q xs
all_to P Q [] f all = tt
all_to P Q (x ∷ xs) f all = (f x all.0, all_to P Q xs f all.1)

module _ (o : Opening) where
  -- a desk that has made no call knows all that it can
  pub new_informed : (n : ℕ) → n < o.desks → IsInformed o (new_desk n)
  new_informed n below = record { legal = tt; parts = ((refl, tt), (refl, tt)); numbered = (below, tt); called = tt; whole = λ all. refl }

  -- what a session did from the desk n
  pub did_from : (n : ℕ) (told : List (Option Matches)) (cs : List Command) (rs : List Reply) (w : Known) → n < o.desks → (run : IsRun o told cs rs (new_desk n) w) (more : List (Option Matches)) → Did o n (told ++ more) 1 cs rs [] (record { knows = new_desk n; kept = [] }) (record { knows = w; kept = (run more).0 })
  did_from n told cs rs w below run more = did o n (told ++ more) 1 cs rs [] (record { knows = new_desk n; kept = [] }) (record { knows = w; kept = (run more).0 }) refl (new_informed n below) (run more).1

pub run_is_played : RunIsPlayed
run_is_played o n told cs rs w more h below run begun same =
    let d : Did o n (told ++ more) 1 cs rs [] (record { knows = new_desk n; kept = [] }) (record { knows = w; kept = (run more).0 }) = did_from o n told cs rs w below run more in
    let own : calls_under (rules o) n h ≡ d.mine = same ∙ sym (own_is o n w d.mine d.role d.informed) in record {
      forms = d.forms;
      calls = ap (map told_of) own ∙ d.calls;
      fronts = all_to (HasFront o n w.seen) (HasFront o n h) (takings (told ++ more) 1 [] cs rs) (λ t f. record { front = f.front; begun = prefix_trans f.front w.seen h f.begun begun; earlier = f.earlier; shown = f.shown; answers = f.answers }) d.fronts;
    }
