-- What a step back and a step on do and answer.
use Rattle.std.proofs.Common.{◌≡◌, ℕ, ◌+◌, ◌-◌, ◌≤◌, List, [], ◌∷◌, ◌++◌, length, take, drop, Option, Some, None, refl, sym, subst, ap, ◌∙◌, unwrap_or, arith}
use Rattle.std.specs.Prelude.{slice_get}
use Rattle.points.specs.declared.point.Point.{Point}
use Rattle.points.specs.declared.limits.TheConstants.{MAX_UNITS}
use Rattle.points.specs.Place.{offset_of}
use Rattle.points.specs.Text.{replaced}
use Rattle.points.proofs.OffsetLemmas.{offset_of-at}
use Rattle.points.proofs.TextLemmas.{length-replaced}
use Rattle.machine.specs.declared.reply.CallRefusal.TheVariants.{Nothing}
use Rattle.machine.specs.Machine.{State, Step, Answer, Batched, Refused, undo, redo, step, undo_step, redo_step, counted, changed, part_of}
use Rattle.buffer.specs.Sound.{Leads, LeadInTurn}

-- where there is no step
undo_none : (s : State) (past : List Step) → slice_get past 0 ≡ None → undo_step s past ≡ (counted s, Refused Nothing)
undo_none s [] none = refl
undo_none s (x ∷ xs) none = cc

redo_none : (s : State) (future : List Step) → slice_get future 0 ≡ None → redo_step s future ≡ (counted s, Refused Nothing)
redo_none s [] none = refl
redo_none s (x ∷ xs) none = cc

pub undo_nothing : (s : State) → slice_get s.past 0 ≡ None → step s undo ≡ (counted s, Refused Nothing)
unfolding step
undo_nothing s none = undo_none s s.past none

pub redo_nothing : (s : State) → slice_get s.future 0 ≡ None → step s redo ≡ (counted s, Refused Nothing)
unfolding step
redo_nothing s none = redo_none s s.future none

-- the state after the units `old` at offset i gave way to `new`, by a step that moved between these lists
abbrev pub moved_over : State → ℕ → List ℕ → List ℕ → List Step → List Step → State × Answer
moved_over s i old new past future = (counted (record (changed s i (i + length old) new) { past = past; future = future }), Batched (part_of s i (i + length old) new ∷ []))

undo_one : (s : State) (past : List Step) (start : Point) (old new : List ℕ) (i : ℕ) → slice_get past 0 ≡ Some (record { start = start; old = new; new = old } ∷ []) → i ≡ unwrap_or (offset_of s.text start) 0
    → undo_step s past ≡ moved_over s i old new (drop 1 past) (take 1 past ++ s.future)
undo_one s [] start old new i first at = cc
undo_one s (x ∷ xs) start old new i first at = let is : x ≡ record { start = start; old = new; new = old } ∷ [] = cc in rw (is, at) refl

redo_one : (s : State) (future : List Step) (start : Point) (old new : List ℕ) (i : ℕ) → slice_get future 0 ≡ Some (record { start = start; old = old; new = new } ∷ []) → i ≡ unwrap_or (offset_of s.text start) 0
    → redo_step s future ≡ moved_over s i old new (take 1 future ++ s.past) (drop 1 future)
redo_one s [] start old new i first at = cc
redo_one s (x ∷ xs) start old new i first at = let is : x ≡ record { start = start; old = old; new = new } ∷ [] = cc in rw (is, at) refl

pub undo_makes : (s : State) (start : Point) (old new : List ℕ) (i : ℕ) → slice_get s.past 0 ≡ Some (record { start = start; old = new; new = old } ∷ []) → i ≡ unwrap_or (offset_of s.text start) 0
    → step s undo ≡ moved_over s i old new (drop 1 s.past) (take 1 s.past ++ s.future)
unfolding step
undo_makes s start old new i first at = undo_one s s.past start old new i first at

pub redo_makes : (s : State) (start : Point) (old new : List ℕ) (i : ℕ) → slice_get s.future 0 ≡ Some (record { start = start; old = old; new = new } ∷ []) → i ≡ unwrap_or (offset_of s.text start) 0
    → step s redo ≡ moved_over s i old new (take 1 s.future ++ s.past) (drop 1 s.future)
unfolding step
redo_makes s start old new i first at = redo_one s s.future start old new i first at

-- the next step leads on from the text
pub next_leads : (R : Step → List ℕ → List ℕ → Type 0) (t : List ℕ) (steps : List Step) (next : Step) → slice_get steps 0 ≡ Some next → LeadInTurn R t steps → (u : List ℕ) × R next t u
next_leads R t [] next first all = cc
next_leads R t (x ∷ xs) next first (u, here, rest) = let is : x ≡ next = cc in (u, subst (λ (y : Step). R y t u) is here)

-- the offset at which it leads on, with room for what it puts in
pub record LeadsAt (t old new : List ℕ) (i : ℕ) : Type 0 where
  pub within : i + length old ≤ length t
  pub fits : length t + length new ≤ MAX_UNITS + (i + length old - i)

pub leads_at : (start : Point) (old new t u : List ℕ) → Leads start old new t u → LeadsAt t old new (unwrap_or (offset_of t start) 0)
leads_at start old new t u h =
    let at : unwrap_or (offset_of t start) 0 ≡ h.offset = ap (λ (o : Option ℕ). unwrap_or o 0) (offset_of-at t start h.offset (omega (arith, h.within)) h.here) in
    let long = length-replaced t h.offset (h.offset + length old) new (omega arith) h.within in
    let short = h.short in
    let is = ap length h.gives in
    rw at (record { within = h.within; fits = omega (arith, long, short, is) })

pub gives_at : (start : Point) (old new t u : List ℕ) → Leads start old new t u
    → replaced t (unwrap_or (offset_of t start) 0) (unwrap_or (offset_of t start) 0 + length old) new ≡ u
gives_at start old new t u h =
    let at : unwrap_or (offset_of t start) 0 ≡ h.offset = ap (λ (o : Option ℕ). unwrap_or o 0) (offset_of-at t start h.offset (omega (arith, h.within)) h.here) in
    rw at (sym h.gives)
