-- What edits, undo and redo make of a text with its marks and its watchers doesn't hang on the steps behind it and before it.
use Rattle.std.proofs.Common.{◌≡◌, ℕ, List, [], ◌∷◌, length, Bool, true, false, cond, Option, Some, None, refl, ap, ◌∙◌}
use Rattle.std.specs.Prelude.{◌==◌, ◌&&◌, nat_lt, option_map, option_and_then}
use Rattle.points.specs.Text.{replaced}
use Rattle.points.specs.Place.{span}
use Rattle.points.specs.declared.limits.TheConstants.{MAX_UNITS}
use Rattle.machine.specs.Machine.{State, Change, Step, Part, Progress, Edit, nothing_made, one_made, member, members, joined, put, undone, redone, then_part, part_then}
use Rattle.plain_replay.specs.Standing.{whole}

-- the same progress, with these steps
abbrev pub with_steps : List Step → List Step → Progress → Progress
with_steps p f g = record { state = whole g.state p f; made = g.made; parts = g.parts }

by_tests : (s : State) (p f : List Step) (i j : ℕ) (new : List ℕ) (nothing long : Bool)
    → cond nothing (Some (nothing_made (whole s p f) i)) (cond long None (Some (one_made (whole s p f) i j new)))
    ≡ option_map (with_steps p f) (cond nothing (Some (nothing_made s i)) (cond long None (Some (one_made s i j new))))
by_tests s p f i j new true long = refl
by_tests s p f i j new false true = refl
by_tests s p f i j new false false = refl

pub member-whole : (s : State) (p f : List Step) (e : Edit) → member (whole s p f) e ≡ option_map (with_steps p f) (member s e)
member-whole s p f e = let ends : ℕ × ℕ = span s.text e.0.start e.0.end in
    by_tests s p f ends.0 ends.1 e.1 ((ends.0 == ends.1) && (length e.1 == 0)) (nat_lt MAX_UNITS (length (replaced s.text ends.0 ends.1 e.1)))

joined-whole : (p f : List Step) (a : Progress) (o : Option Progress) → option_map (joined (with_steps p f a)) (option_map (with_steps p f) o) ≡ option_map (with_steps p f) (option_map (joined a) o)
joined-whole p f a None = refl
joined-whole p f a (Some b) = refl

then-whole : (es : List Edit) (p f : List Step) (o : Option Progress) → ((s : State) → members (whole s p f) es ≡ option_map (with_steps p f) (members s es))
    → option_and_then (λ (a : Progress). option_map (joined a) (members a.state es)) (option_map (with_steps p f) o)
    ≡ option_map (with_steps p f) (option_and_then (λ (a : Progress). option_map (joined a) (members a.state es)) o)
then-whole es p f None rest = refl
then-whole es p f (Some a) rest = ap (λ (o : Option Progress). option_map (joined (with_steps p f a)) o) (rest a.state) ∙ joined-whole p f a (members a.state es)

pub members-whole : (es : List Edit) (s : State) (p f : List Step) → members (whole s p f) es ≡ option_map (with_steps p f) (members s es)
members-whole [] s p f = refl
members-whole (e ∷ es) s p f = ap (λ (o : Option Progress). option_and_then (λ (a : Progress). option_map (joined a) (members a.state es)) o) (member-whole s p f e)
    ∙ then-whole es p f (member s e) (λ t. members-whole es t p f)

-- the same state and parts, with these steps
abbrev pub steps_beside : List Step → List Step → State × List Part → State × List Part
steps_beside p f r = (whole r.0 p f, r.1)

pub undone-whole : (cs : List Change) (s : State) (p f : List Step) → undone (whole s p f) cs ≡ steps_beside p f (undone s cs)
undone-whole [] s p f = refl
undone-whole (c ∷ cs) s p f = ap (λ (r : State × List Part). then_part r (put r.0 c.start c.new c.old)) (undone-whole cs s p f)

pub redone-whole : (cs : List Change) (s : State) (p f : List Step) → redone (whole s p f) cs ≡ steps_beside p f (redone s cs)
redone-whole [] s p f = refl
redone-whole (c ∷ cs) s p f = let first : State × Part = put s c.start c.old c.new in ap (part_then first.1) (redone-whole cs first.0 p f)
