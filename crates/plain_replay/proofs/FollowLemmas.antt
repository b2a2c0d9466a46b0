-- What edits make: changes that lead from the text before them to the text behind them.
use Rattle.std.proofs.Common.{◌≡◌, ℕ, ◌+◌, ◌-◌, ◌≤◌, List, [], ◌∷◌, length, take, drop, Bool, true, false, cond, Option, Some, None, refl, sym, ap, ◌∙◌, subst, arith, length-drop}
use Rattle.std.specs.Prelude.{◌==◌, ◌&&◌, nat_lt, option_map, option_and_then}
use Rattle.std.proofs.lemmas.Bool.Decides.{nat_tests}
use Rattle.std.proofs.lemmas.List.{length-take-le}
use Rattle.points.specs.Text.{replaced}
use Rattle.points.specs.Place.{span}
use Rattle.points.proofs.ClipLemmas.{clipped_offset_mono, clipped_at}
use Rattle.points.specs.declared.limits.TheConstants.{MAX_UNITS}
use Rattle.machine.specs.Machine.{State, Change, Progress, Edit, between, change_of, nothing_made, one_made, member, members, joined, put, undone, redone}
use Rattle.plain_replay.specs.Standing.{Makes, Follows}
use Rattle.plain_replay.proofs.StandingLemmas.{leads-append}

one_makes : (s : State) (i j : ℕ) (new : List ℕ) → i ≤ j → j ≤ length s.text → length s.text ≤ MAX_UNITS → length (replaced s.text i j new) ≤ MAX_UNITS
    → Makes s.text (change_of s i j new) (replaced s.text i j new)
one_makes s i j new ij jt short fits = record {
  offset = i;
  start = refl;
  within = omega (arith, size);
  was = ap (λ (n : ℕ). take n (drop i s.text)) size;
  is = ap (λ (k : ℕ). replaced s.text i k new) (let e : j ≡ i + length (between s.text i j) = omega (arith, size) in e);
  short = short;
  fits = fits;
} where
  size : length (between s.text i j) ≡ j - i
  size = length-take-le (j - i) (drop i s.text) (omega (arith, length-drop i s.text))

abbrev pub FollowsIf : State → Option Progress → Type 0
FollowsIf s None = Unit {0}
FollowsIf s (Some g) = Follows s g.made g.state

by_tests : (s : State) (i j : ℕ) (new : List ℕ) → i ≤ j → j ≤ length s.text → length s.text ≤ MAX_UNITS → (nothing long : Bool)
    → nat_lt MAX_UNITS (length (replaced s.text i j new)) ≡ long
    → FollowsIf s (cond nothing (Some (nothing_made s i)) (cond long None (Some (one_made s i j new))))
by_tests s i j new ij jt short true long is = record { leads = refl; short = short; count = refl }
by_tests s i j new ij jt short false true is = tt
by_tests s i j new ij jt short false false is =
    let fits : length (replaced s.text i j new) ≤ MAX_UNITS = grind (arith, nat_tests) in
    record { leads = (replaced s.text i j new, one_makes s i j new ij jt short fits, refl); short = fits; count = refl }

member_follows : (s : State) (e : Edit) → length s.text ≤ MAX_UNITS → FollowsIf s (member s e)
member_follows s e short = let ends : ℕ × ℕ = span s.text e.0.start e.0.end in
    by_tests s ends.0 ends.1 e.1 (clipped_offset_mono s.text e.0.start e.0.end e.0.ordered) (clipped_at s.text e.0.end).within short
    ((ends.0 == ends.1) && (length e.1 == 0)) (nat_lt MAX_UNITS (length (replaced s.text ends.0 ends.1 e.1))) refl

joined_follows : (s : State) (a : Progress) (o : Option Progress) → Follows s a.made a.state → FollowsIf a.state o → FollowsIf s (option_map (joined a) o)
joined_follows s a None first rest = tt
joined_follows s a (Some b) first rest = record {
  leads = leads-append a.made b.made s.text a.state.text b.state.text first.leads rest.leads;
  short = rest.short;
  count = rest.count ∙ first.count;
}

then_follows : (s : State) (es : List Edit) (o : Option Progress) → FollowsIf s o → ((t : State) → length t.text ≤ MAX_UNITS → FollowsIf t (members t es))
    → FollowsIf s (option_and_then (λ (a : Progress). option_map (joined a) (members a.state es)) o)
then_follows s es None first rest = tt
then_follows s es (Some a) first rest = joined_follows s a (members a.state es) first (rest a.state first.short)

members_follow : (es : List Edit) (s : State) → length s.text ≤ MAX_UNITS → FollowsIf s (members s es)
members_follow [] s short = record { leads = refl; short = short; count = refl }
members_follow (e ∷ es) s short = then_follows s es (member s e) (member_follows s e short) (λ t within. members_follow es t within)

-- the same at the edits' answer
pub member_leads : (s : State) (e : Edit) (g : Progress) → length s.text ≤ MAX_UNITS → Some g ≡ member s e → Follows s g.made g.state
member_leads s e g short is = subst (λ (o : Option Progress). FollowsIf s o) (sym is) (member_follows s e short)

pub members_lead : (s : State) (es : List Edit) (g : Progress) → length s.text ≤ MAX_UNITS → Some g ≡ members s es → Follows s g.made g.state
members_lead s es g short is = subst (λ (o : Option Progress). FollowsIf s o) (sym is) (members_follow es s short)

-- neither an undo nor a redo numbers a call
pub undone_count : (cs : List Change) (s : State) → (undone s cs).0.count ≡ s.count
undone_count [] s = refl
undone_count (c ∷ cs) s = undone_count cs s

pub redone_count : (cs : List Change) (s : State) → (redone s cs).0.count ≡ s.count
redone_count [] s = refl
redone_count (c ∷ cs) s = redone_count cs (put s c.start c.old c.new).0
