-- One edit, case by case.
use Rattle.std.proofs.Common.{◌≡◌, ℕ, ◌≤◌, List, ◌∷◌, length, Bool, true, false, cond, Option, Some, None, sym, ap, ◌∙◌, arith}
use Rattle.std.specs.Prelude.{◌==◌, ◌&&◌, nat_lt, option_map, option_and_then}
use Rattle.std.proofs.lemmas.Bool.Decides.{nat_tests}
use Rattle.points.specs.Text.{replaced}
use Rattle.points.specs.Place.{clipped_offset}
use Rattle.points.specs.declared.limits.TheConstants.{MAX_UNITS}
use Rattle.machine.specs.Machine.{State, Edit, Progress, nothing_made, one_made, member, members, joined}

-- an edit by its two tests, and at offsets that the caller found
abbrev pub edit_by : State → ℕ → ℕ → List ℕ → Bool → Bool → Option Progress
edit_by s i j new nothing long = cond nothing (Some (nothing_made s i)) (cond long None (Some (one_made s i j new)))

abbrev pub is_nothing : ℕ → ℕ → List ℕ → Bool
is_nothing i j new = (i == j) && (length new == 0)

abbrev pub is_long : State → ℕ → ℕ → List ℕ → Bool
is_long s i j new = nat_lt MAX_UNITS (length (replaced s.text i j new))

member_at : (s : State) (e : Edit) (i j : ℕ) (new : List ℕ) → i ≡ clipped_offset s.text e.0.start → j ≡ clipped_offset s.text e.0.end → new ≡ e.1
    → edit_by s i j new (is_nothing i j new) (is_long s i j new) ≡ member s e
member_at s e i j new start end is = ap (λ (k : ℕ). edit_by s k j new (is_nothing k j new) (is_long s k j new)) start
    ∙ ap (λ (k : ℕ). edit_by s (clipped_offset s.text e.0.start) k new (is_nothing (clipped_offset s.text e.0.start) k new) (is_long s (clipped_offset s.text e.0.start) k new)) end
    ∙ ap (λ (n : List ℕ). edit_by s (clipped_offset s.text e.0.start) (clipped_offset s.text e.0.end) n (is_nothing (clipped_offset s.text e.0.start) (clipped_offset s.text e.0.end) n)
    (is_long s (clipped_offset s.text e.0.start) (clipped_offset s.text e.0.end) n)) is

pub member_nothing : (s : State) (e : Edit) (i j : ℕ) (new : List ℕ) (g : Progress) → i ≡ clipped_offset s.text e.0.start → j ≡ clipped_offset s.text e.0.end → new ≡ e.1
    → is_nothing i j new ≡ true → g ≡ nothing_made s i → Some g ≡ member s e
member_nothing s e i j new g start end is nothing made = ap Some made ∙ sym (ap (λ (b : Bool). edit_by s i j new b (is_long s i j new)) nothing) ∙ member_at s e i j new start end is

pub member_long : (s : State) (e : Edit) (i j : ℕ) (new : List ℕ) → i ≡ clipped_offset s.text e.0.start → j ≡ clipped_offset s.text e.0.end → new ≡ e.1
    → is_nothing i j new ≡ false → is_long s i j new ≡ true → None ≡ member s e
member_long s e i j new start end is some long = sym (ap (λ (b : Bool). edit_by s i j new b (is_long s i j new)) some ∙ ap (λ (b : Bool). edit_by s i j new false b) long)
    ∙ member_at s e i j new start end is

pub member_made : (s : State) (e : Edit) (i j : ℕ) (new : List ℕ) (g : Progress) → i ≡ clipped_offset s.text e.0.start → j ≡ clipped_offset s.text e.0.end → new ≡ e.1
    → is_nothing i j new ≡ false → is_long s i j new ≡ false → g ≡ one_made s i j new → Some g ≡ member s e
member_made s e i j new g start end is some fits made = ap Some made
    ∙ sym (ap (λ (b : Bool). edit_by s i j new b (is_long s i j new)) some ∙ ap (λ (b : Bool). edit_by s i j new false b) fits) ∙ member_at s e i j new start end is

pub fits_by : (n limit : ℕ) → nat_lt limit n ≡ false → n ≤ limit
fits_by n limit fits = grind (arith, nat_tests)

-- edits in turn: none, where the first is refused, where a later one is, and where all are made
pub members_first : (s : State) (es ds : List Edit) (e : Edit) → es ≡ e ∷ ds → None ≡ member s e → None ≡ members s es
members_first s es ds e is none = ap (λ (o : Option Progress). option_and_then (λ (a : Progress). option_map (joined a) (members a.state ds)) o) none ∙ ap (members s) (sym is)

pub members_rest : (s : State) (es ds : List Edit) (e : Edit) (a : Progress) → es ≡ e ∷ ds → Some a ≡ member s e → None ≡ members a.state ds → None ≡ members s es
members_rest s es ds e a is some none = ap (λ (o : Option Progress). option_map (joined a) o) none
    ∙ ap (λ (o : Option Progress). option_and_then (λ (a : Progress). option_map (joined a) (members a.state ds)) o) some ∙ ap (members s) (sym is)

pub members_both : (s : State) (es ds : List Edit) (e : Edit) (a b g : Progress) → es ≡ e ∷ ds → Some a ≡ member s e → Some b ≡ members a.state ds → g ≡ joined a b → Some g ≡ members s es
members_both s es ds e a b g is first rest both = ap Some both ∙ ap (λ (o : Option Progress). option_map (joined a) o) rest
    ∙ ap (λ (o : Option Progress). option_and_then (λ (a : Progress). option_map (joined a) (members a.state ds)) o) first ∙ ap (members s) (sym is)
