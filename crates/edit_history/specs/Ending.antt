-- What the steps are once a step that they lent was given back.
use Rattle.std.specs.Prelude.{◌≡◌, ⊤}
use Rattle.std.specs.Borrow.{MutBor, Fml, follows_so}
use mathlib.Core.Option as maybe
use Rattle.patch.specs.declared.change.Change.{Change}
use Rattle.edit_history.specs.History.{History}
use Rattle.edit_history.specs.contracts.steps.Steps.{the_row}

-- they end as h
abbrev pub EndsAs : MutBor (History Change) → History Change → Fml
EndsAs s h = follows_so the_row the_row s.ghost_name maybe.none (λ _ _. ⊤) (λ n. n ≡ h)
