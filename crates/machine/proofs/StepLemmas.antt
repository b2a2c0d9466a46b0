-- What a call of the plain machine does to the count, the version and the text.
use Rattle.std.proofs.Common.{◌≡◌, ℕ, suc, ◌+◌, List, [], ◌∷◌, length, Bool, true, false, cond, Option, Some, None, refl, sym, ◌∙◌, ap, arith, inl, inr, ◌⊎◌}
use Rattle.std.specs.Prelude.{◌==◌, ◌&&◌, nat_lt, nat_le, is_some, option_and_then, option_map}
use Rattle.points.specs.declared.point.Point.{Point}
use Rattle.points.specs.declared.mark.Mark.{Mark}
use Rattle.points.specs.Text.{replaced}
use Rattle.points.specs.Place.{span}
use Rattle.points.specs.MarkList.{mark_with, with_mark}
use Rattle.points.specs.declared.limits.TheConstants.{MAX_UNITS, MAX_MARKS, MAX_WATCHERS}
use Rattle.machine.specs.Machine.{State, Change, Step, Part, Progress, Edit, Call, Answer, Batched, Watching, edit, batch, undo, redo, look, add_mark, remove_mark, set_exclusive, mark_range, find_marks, compare_marks, watch, unwatch, counted, nothing_made, one_made, member, joined, members, with_step, edited, put, undone, redone, undo_step, redo_step, on_mark, add_step, watch_step, unwatch_step, watcher_with, step}
use Rattle.machine.specs.Laws.{IsNumbered, StepNumbers}

-- what holds of both holds of the chosen one
pub either : {X : Type 0} (P : X → Type 0) (b : Bool) (x y : X) → P x → P y → P (cond b x y)
either P true x y p q = p
either P false x y p q = q

-- within a call: the count stays, and the text and the version stay or the call's number is the version
record Leads (s t : State) : Type 0 where
  count : t.count ≡ s.count
  version : ((t.version ≡ s.version) × (t.text ≡ s.text)) ⊎ (t.version ≡ s.count + 1)

stays : (s : State) → Leads s s
stays s = record { count = refl; version = inl (refl, refl) }

leads_on : (s t u : State) → Leads s t → Leads t u → Leads s u
leads_on s t u a b = record {
  count = b.count ∙ a.count;
  version = elim b.version [
    | inl kept ↦ elim a.version [
      | inl before ↦ inl (kept.0 ∙ before.0, kept.1 ∙ before.1)
      | inr new ↦ inr (kept.0 ∙ new)
    ]
    | inr new ↦ inr (new ∙ ap (λ n. n + 1) a.count)
  ];
}

abbrev LeadsTo : State → Option Progress → Type 0
LeadsTo s None = Unit {0}
LeadsTo s (Some p) = Leads s p.state

member_leads : (s : State) (e : Edit) → LeadsTo s (member s e)
member_leads s e =
    let ends : ℕ × ℕ = span s.text e.0.start e.0.end in
    either (LeadsTo s) ((ends.0 == ends.1) && (length e.1 == 0)) (Some (nothing_made s ends.0)) _ (stays s)
    (either (LeadsTo s) (nat_lt MAX_UNITS (length (replaced s.text ends.0 ends.1 e.1))) None (Some (one_made s ends.0 ends.1 e.1)) tt (record { count = refl; version = inr refl }))

joined_leads : (s : State) (a : Progress) (o : Option Progress) → Leads s a.state → LeadsTo a.state o → LeadsTo s (option_map (joined a) o)
joined_leads s a None first rest = tt
joined_leads s a (Some b) first rest = leads_on s a.state b.state first rest

then_leads : (s : State) (es : List Edit) (o : Option Progress) → LeadsTo s o → ((t : State) → LeadsTo t (members t es)) → LeadsTo s (option_and_then (λ a. option_map (joined a) (members a.state es)) o)
then_leads s es None first rest = tt
then_leads s es (Some a) first rest = joined_leads s a (members a.state es) first (rest a.state)

members_lead : (es : List Edit) (s : State) → LeadsTo s (members s es)
members_lead [] s = stays s
members_lead (e ∷ es) s = then_leads s es (member s e) (member_leads s e) (members_lead es)

put_leads : (s : State) (start : Point) (old new : List ℕ) → Leads s (put s start old new).0
put_leads s start old new = record { count = refl; version = inr refl }

undone_leads : (cs : List Change) (s : State) → Leads s (undone s cs).0
undone_leads [] s = stays s
undone_leads (c ∷ cs) s = leads_on s (undone s cs).0 _ (undone_leads cs s) (put_leads (undone s cs).0 c.start c.new c.old)

redone_leads : (cs : List Change) (s : State) → Leads s (redone s cs).0
redone_leads [] s = stays s
redone_leads (c ∷ cs) s = leads_on s (put s c.start c.old c.new).0 _ (put_leads s c.start c.old c.new) (redone_leads cs (put s c.start c.old c.new).0)

-- what a call makes of a state that it leads to
numbers_by : (s t : State) → Leads s t → IsNumbered s (counted t)
numbers_by s t leads = record {
  count = ap (λ n. n + 1) leads.count;
  version = elim leads.version [
    | inl kept ↦ inl kept
    | inr new ↦ inr (new ∙ ap (λ n. n + 1) (sym leads.count))
  ];
}

-- the state of an answer is the one before the call with one call more
same_numbers : (s : State) → IsNumbered s (counted s)
same_numbers s = numbers_by s s (stays s)

-- a step that can be taken back changes neither
step_leads : (s t : State) (cs : List Change) → Leads s t → Leads s (with_step cs t)
step_leads s t [] leads = leads
step_leads s t (c ∷ cs) leads = record { count = leads.count; version = leads.version }

edited_numbers : (s : State) (answer : List Part → Answer) (o : Option Progress) → LeadsTo s o → IsNumbered s (edited s answer o).0
edited_numbers s answer None leads = same_numbers s
edited_numbers s answer (Some p) leads = numbers_by s (with_step p.made p.state) (step_leads s p.state p.made leads)

undo_numbers : (s : State) (past : List Step) → IsNumbered s (undo_step s past).0
undo_numbers s [] = same_numbers s
undo_numbers s (step ∷ rest) = let leads : Leads s (undone s step).0 = undone_leads step s in numbers_by s _ (record { count = leads.count; version = leads.version })

redo_numbers : (s : State) (future : List Step) → IsNumbered s (redo_step s future).0
redo_numbers s [] = same_numbers s
redo_numbers s (step ∷ rest) = let leads : Leads s (redone s step).0 = redone_leads step s in numbers_by s _ (record { count = leads.count; version = leads.version })

-- a call that touches neither text nor version
abbrev Keeps : State → State × Answer → Type 0
Keeps s r = IsNumbered s r.0

on_mark_numbers : (s : State) (call : Mark → State × Answer) (o : Option Mark) → ((m : Mark) → Keeps s (call m)) → Keeps s (on_mark s call o)
on_mark_numbers s call None keeps = same_numbers s
on_mark_numbers s call (Some m) keeps = keeps m

-- the state with other marks or watchers
beside : (s t : State) → t.count ≡ s.count → t.version ≡ s.version → t.text ≡ s.text → IsNumbered s (counted t)
beside s t count version text = numbers_by s t (record { count = count; version = inl (version, text) })

add_numbers : (s : State) (m : Mark) → Keeps s (add_step s m)
add_numbers s m = either (Keeps s) (is_some (mark_with m.id s.marks)) _ _ (same_numbers s)
    (either (Keeps s) (nat_le MAX_MARKS (length s.marks)) _ _ (same_numbers s) (beside s (record s { marks = with_mark m s.marks }) refl refl refl))

watch_numbers : (s : State) (id : ℕ) → Keeps s (watch_step s id)
watch_numbers s id = either (Keeps s) (is_some (watcher_with id s.watchers)) _ _ (same_numbers s)
    (either (Keeps s) (nat_le MAX_WATCHERS (length s.watchers)) _ _ (same_numbers s) (beside s _ refl refl refl))

unwatch_numbers : (s : State) (id : ℕ) (o : Option Watching) → Keeps s (unwatch_step s id o)
unwatch_numbers s id None = same_numbers s
unwatch_numbers s id (Some w) = beside s _ refl refl refl

-- each call raises the count by one, and keeps version and text or makes the version its number
pub step_numbers : StepNumbers
unfolding step
step_numbers s (edit e) = edited_numbers s _ (member s e) (member_leads s e)
step_numbers s (batch es) = edited_numbers s Batched (members s es) (members_lead es s)
step_numbers s undo = undo_numbers s s.past
step_numbers s redo = redo_numbers s s.future
step_numbers s (look range limit) = same_numbers s
step_numbers s (add_mark id range exclusive) = add_numbers s _
step_numbers s (remove_mark id) = on_mark_numbers s _ (mark_with id s.marks) (λ m. beside s _ refl refl refl)
step_numbers s (set_exclusive id exclusive) = on_mark_numbers s _ (mark_with id s.marks) (λ m. beside s _ refl refl refl)
step_numbers s (mark_range id) = on_mark_numbers s _ (mark_with id s.marks) (λ m. same_numbers s)
step_numbers s (find_marks how range) = same_numbers s
step_numbers s (compare_marks a b) = on_mark_numbers s _ (mark_with a s.marks) (λ m. on_mark_numbers s _ (mark_with b s.marks) (λ n. same_numbers s))
step_numbers s (watch id) = watch_numbers s id
step_numbers s (unwatch id) = unwatch_numbers s id (watcher_with id s.watchers)

-- the count rises by one
pub step_counts : (s : State) (c : Call) → (step s c).0.count ≡ suc s.count
step_counts s c = omega (arith, (step_numbers s c).count)
