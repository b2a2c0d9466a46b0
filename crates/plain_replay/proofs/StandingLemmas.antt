-- Steps that a text has behind it and before it: what an undo and a redo of them make of the text.
use Rattle.std.proofs.Common.{◌≡◌, ℕ, zero, suc, ◌+◌, ◌<◌, ◌≤◌, List, [], ◌∷◌, ◌++◌, length, take, drop, slice_index_or, refl, sym, ap, ◌∙◌, subst, arith, append_assoc, length-append, take-append-drop}
use Rattle.std.specs.Prelude.{Option, unwrap_or}
use Rattle.std.proofs.lemmas.List.{take_at, drop_at, length-take-le, drop-drop}
use Rattle.points.specs.declared.limits.TheConstants.{MAX_UNITS, MAX_STEPS}
use Rattle.points.specs.Text.{replaced}
use Rattle.points.specs.Place.{point_at, offset_of}
use Rattle.points.proofs.TextLemmas.{length-replaced}
use Rattle.points.proofs.OffsetLemmas.{offset_of-at}
use Rattle.points.proofs.ExtentParts.{point_at-replaced_before}
use Rattle.machine.specs.Machine.{State, Change, Step, put, undone, redone}
use Rattle.plain_replay.specs.Standing.{Makes, Leads, ArePast, AreFuture, HasSteps, CanPut}

-- units that were replaced, put back
pub replaced_back : (t old new : List ℕ) (i : ℕ) → i + length old ≤ length t → take (length old) (drop i t) ≡ old
    → replaced (replaced t i (i + length old) new) i (i + length new) old ≡ t
replaced_back t old new i within was = rw (front, rest) (ap (λ (xs : List ℕ). take i t ++ xs ++ drop (i + length old) t) (sym was) ∙ whole_again) where
  size : length (take i t) ≡ i
  size = length-take-le i t (omega arith)

  front : take i (replaced t i (i + length old) new) ≡ take i t
  front = ap (take i) (append_assoc (take i t) new (drop (i + length old) t)) ∙ take_at (take i t) (new ++ drop (i + length old) t) i size

  rest : drop (i + length new) (replaced t i (i + length old) new) ≡ drop (i + length old) t
  rest = drop_at (take i t ++ new) (drop (i + length old) t) (i + length new) (omega (arith, length-append (take i t) new, size))

  behind : take (length old) (drop i t) ++ drop (i + length old) t ≡ drop i t
  behind = ap (λ (xs : List ℕ). take (length old) (drop i t) ++ xs) (sym (drop-drop (length old) i t)) ∙ take-append-drop (length old) (drop i t)

  whole_again : take i t ++ take (length old) (drop i t) ++ drop (i + length old) t ≡ t
  whole_again = append_assoc (take i t) (take (length old) (drop i t)) (drop (i + length old) t) ∙ ap (λ (xs : List ℕ). take i t ++ xs) behind ∙ take-append-drop i t

-- a change the other way round
abbrev pub turned : Change → Change
turned c = record { start = c.start; old = c.new; new = c.old }

pub makes-turned : (t : List ℕ) (c : Change) (u : List ℕ) → Makes t c u → Makes u (turned c) t
makes-turned t c u m = record {
  offset = m.offset;
  start = ap (λ (x : List ℕ). point_at x m.offset) m.is ∙ point_at-replaced_before t m.offset (m.offset + length c.old) m.offset c.new (omega arith) (omega (arith, m.within)) ∙ m.start;
  within = omega (arith, ap length m.is, length-replaced t m.offset (m.offset + length c.old) c.new (omega arith) m.within, m.within);
  was = ap (λ (x : List ℕ). take (length c.new) (drop m.offset x)) m.is ∙ there;
  is = sym (ap (λ (x : List ℕ). replaced x m.offset (m.offset + length c.new) c.old) m.is ∙ replaced_back t c.old c.new m.offset m.within m.was);
  short = m.fits;
  fits = m.short;
} where
  size : length (take m.offset t) ≡ m.offset
  size = length-take-le m.offset t (omega (arith, m.within))

  there : take (length c.new) (drop m.offset (replaced t m.offset (m.offset + length c.old) c.new)) ≡ c.new
  there = ap (λ (x : List ℕ). take (length c.new) (drop m.offset x)) (append_assoc (take m.offset t) c.new (drop (m.offset + length c.old) t))
      ∙ ap (take (length c.new)) (drop_at (take m.offset t) (c.new ++ drop (m.offset + length c.old) t) m.offset size)
      ∙ take_at c.new (drop (m.offset + length c.old) t) (length c.new) refl

-- the offset of a change
offset_is : (t : List ℕ) (c : Change) (u : List ℕ) → (m : Makes t c u) → unwrap_or (offset_of t c.start) 0 ≡ m.offset
offset_is t c u m = ap (λ (o : Option ℕ). unwrap_or o 0) (offset_of-at t c.start m.offset (omega (arith, m.within)) m.start)

pub can_put : (t : List ℕ) (c : Change) (u : List ℕ) → Makes t c u → CanPut t c.start c.old c.new
can_put t c u m = let at = offset_is t c u m in record {
  within = omega (arith, at, m.within);
  fits = subst (λ (i : ℕ). length (replaced t i (i + length c.old) c.new) ≤ MAX_UNITS) (sym at) (subst (λ (x : List ℕ). length x ≤ MAX_UNITS) m.is m.fits);
}

put_text : (s : State) (t : List ℕ) (c : Change) (u : List ℕ) → s.text ≡ t → Makes t c u → (put s c.start c.old c.new).0.text ≡ u
put_text s t c u same m = ap (λ (x : List ℕ). replaced x (unwrap_or (offset_of x c.start) 0) (unwrap_or (offset_of x c.start) 0 + length c.old) c.new) same
    ∙ ap (λ (i : ℕ). replaced t i (i + length c.old) c.new) (offset_is t c u m) ∙ sym m.is

-- the text after a step taken back, and after one made again
pub undone_text : (cs : List Change) (s : State) (t : List ℕ) → Leads t cs s.text → (undone s cs).0.text ≡ t
undone_text [] s t leads = sym leads
undone_text (c ∷ cs) s t leads = put_text (undone s cs).0 leads.0 (turned c) t (undone_text cs s leads.0 leads.2) (makes-turned t c leads.0 leads.1)

pub redone_text : (cs : List Change) (s : State) (u : List ℕ) → Leads s.text cs u → (redone s cs).0.text ≡ u
redone_text [] s u leads = leads
redone_text (c ∷ cs) s u leads = redone_text cs (put s c.start c.old c.new).0 u
    (subst (λ (x : List ℕ). Leads x cs u) (sym (put_text s s.text c leads.0 refl leads.1)) leads.2)

-- what an undo and a redo ask before they put a change back
pub can_undo : (c : Change) (cs : List Change) (s : State) (t : List ℕ) → Leads t (c ∷ cs) s.text → CanPut (undone s cs).0.text c.start c.new c.old
can_undo c cs s t leads = subst (λ (x : List ℕ). CanPut x c.start c.new c.old) (sym (undone_text cs s leads.0 leads.2))
    (can_put leads.0 (turned c) t (makes-turned t c leads.0 leads.1))

pub leads_behind : (c : Change) (cs : List Change) (s : State) (u : List ℕ) → (leads : Leads s.text (c ∷ cs) u) → Leads (put s c.start c.old c.new).0.text cs u
leads_behind c cs s u leads = subst (λ (x : List ℕ). Leads x cs u) (sym (put_text s s.text c leads.0 refl leads.1)) leads.2

-- steps one behind the other
pub leads-append : (cs ds : List Change) (t u v : List ℕ) → Leads t cs u → Leads u ds v → Leads t (cs ++ ds) v
leads-append [] ds t u v first rest = subst (λ (x : List ℕ). Leads x ds v) (sym first) rest
leads-append (c ∷ cs) ds t u v first rest = (first.0, first.1, leads-append cs ds first.0 u v first.2 rest)

pub past-take : (n : ℕ) (t : List ℕ) (ss : List Step) → ArePast t ss → ArePast t (take n ss)
past-take zero t ss past = tt
past-take (suc n) t [] past = tt
past-take (suc n) t (s ∷ ss) past = (past.0, past.1, past-take n past.0 ss past.2)

-- the first step that a text has behind it, or before it
pub past_first : (t : List ℕ) (ss : List Step) (step : Step) → 0 < length ss → step ≡ slice_index_or ss 0 step → ArePast t ss → (u : List ℕ) × Leads u step t
past_first t [] step some at past = absurd (omega arith)
past_first t (s ∷ ss) step some at past = (past.0, subst (λ (x : Step). Leads past.0 x t) (sym at) past.1)

pub future_first : (t : List ℕ) (ss : List Step) (step : Step) → 0 < length ss → step ≡ slice_index_or ss 0 step → AreFuture t ss → (u : List ℕ) × Leads t step u
future_first t [] step some at future = absurd (omega arith)
future_first t (s ∷ ss) step some at future = (future.0, subst (λ (x : Step). Leads t x future.0) (sym at) future.1)

-- a step that is taken back, or made again, goes from the one side to the other
pub steps_undone : (s : State) (p f : List Step) (step : Step) (t : List ℕ) → 0 < length p → step ≡ slice_index_or p 0 step → t ≡ (undone s step).0.text
    → HasSteps s.text p f → HasSteps t (drop 1 p) (take 1 p ++ f)
steps_undone s [] f step t some at is has = absurd (omega arith)
steps_undone s (x ∷ xs) f step t some at is has =
    let same : has.past.0 ≡ t = sym (is ∙ ap (λ (y : Step). (undone s y).0.text) at ∙ undone_text x s has.past.0 has.past.1) in record {
      past = subst (λ (y : List ℕ). ArePast y xs) same has.past.2;
      future = (s.text, subst (λ (y : List ℕ). Leads y x s.text) same has.past.1, has.future);
    }

pub steps_redone : (s : State) (p f : List Step) (step : Step) (t : List ℕ) → 0 < length f → step ≡ slice_index_or f 0 step → t ≡ (redone s step).0.text
    → HasSteps s.text p f → HasSteps t (take 1 f ++ p) (drop 1 f)
steps_redone s p [] step t some at is has = absurd (omega arith)
steps_redone s p (x ∷ xs) step t some at is has =
    let same : has.future.0 ≡ t = sym (is ∙ ap (λ (y : Step). (redone s y).0.text) at ∙ redone_text x s has.future.0 has.future.1) in record {
      past = (s.text, subst (λ (y : List ℕ). Leads s.text x y) same has.future.1, has.past);
      future = subst (λ (y : List ℕ). AreFuture y xs) same has.future.2;
    }

-- a new step goes to the past
pub steps_made : (t u : List ℕ) (p f : List Step) (cs : List Change) → Leads t cs u → HasSteps t p f → HasSteps u (take MAX_STEPS (cs ∷ p)) []
steps_made t u p f cs leads has = record { past = past-take MAX_STEPS u (cs ∷ p) (t, leads, has.past); future = tt }

pub steps_kept : (t u : List ℕ) (p f : List Step) → t ≡ u → HasSteps t p f → HasSteps u p f
steps_kept t u p f same has = subst (λ (x : List ℕ). HasSteps x p f) same has

-- no change leaves the text
pub leads_nowhere : (t u : List ℕ) (cs : List Change) → length cs ≡ 0 → Leads t cs u → t ≡ u
leads_nowhere t u [] none leads = leads
leads_nowhere t u (c ∷ cs) none leads = absurd (omega arith)

-- the same, of the first change of a list
pub can_redo_at : (cs : List Change) (c : Change) (t u : List ℕ) → 1 ≤ length cs → c ≡ slice_index_or cs 0 c → Leads t cs u → CanPut t c.start c.old c.new
can_redo_at [] c t u some at leads = absurd (omega arith)
can_redo_at (d ∷ ds) c t u some at leads = subst (λ (x : Change). CanPut t x.start x.old x.new) (sym at) (can_put t d leads.0 leads.1)

pub can_undo_at : (cs ds : List Change) (c : Change) (s : State) (t : List ℕ) → 1 ≤ length cs → c ≡ slice_index_or cs 0 c → ds ≡ drop 1 cs → Leads t cs s.text → CanPut (undone s ds).0.text c.start c.new c.old
can_undo_at [] ds c s t some at rest leads = absurd (omega arith)
can_undo_at (d ∷ es) ds c s t some at rest leads = subst (λ (xs : List Change). CanPut (undone s xs).0.text c.start c.new c.old) (sym rest)
    (subst (λ (x : Change). CanPut (undone s es).0.text x.start x.new x.old) (sym at) (can_undo d es s t leads))

pub leads_behind_at : (cs ds : List Change) (c : Change) (s : State) (u : List ℕ) → 1 ≤ length cs → c ≡ slice_index_or cs 0 c → ds ≡ drop 1 cs → Leads s.text cs u → Leads (put s c.start c.old c.new).0.text ds u
leads_behind_at [] ds c s u some at rest leads = absurd (omega arith)
leads_behind_at (d ∷ es) ds c s u some at rest leads = subst (λ (xs : List Change). Leads (put s c.start c.old c.new).0.text xs u) (sym rest)
    (subst (λ (x : Change). Leads (put s x.start x.old x.new).0.text es u) (sym at) (leads_behind d es s u leads))
