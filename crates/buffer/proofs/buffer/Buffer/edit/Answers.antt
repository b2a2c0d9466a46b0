use Rattle.std.proofs.Common.{◌≡◌, ℕ, ◌+◌, ◌-◌, List, [], ◌∷◌, length, true, false, sym, subst, ap, ◌∙◌, arith}
use Rattle.std.specs.Prelude.{nat_lt, ◌==◌, ◌&&◌}
use Rattle.std.proofs.lemmas.Bool.Decides.{nat_tests}
use Rattle.points.specs.declared.point.Point.{Point}
use Rattle.points.specs.Text.{utf16_of, replaced}
use Rattle.points.specs.Place.{point_at, clipped_offset}
use Rattle.points.specs.declared.limits.TheConstants.{MAX_UNITS}
use Rattle.chains.specs.declared.spot.Spot.{Spot}
use Rattle.machine.specs.Machine.{State, Answer, counted, edit, step, with_step, change_of, changed, part_of, Edited, no_hits}
use Rattle.machine.specs.Answers.{edited_reply}
use Rattle.buffer.specs.Seen.{state_of}
use Rattle.buffer.proofs.TextLemmas.{are_spots}
use Rattle.buffer.proofs.EditLemmas.{same_answer, done_answer, is_nothing, edit_nothing, edit_too_long, edit_makes, too_long_is}
use Rattle.buffer.proofs.buffer.Buffer.edit.Goals as goal

pub make-requires-after_bounds : goal.make-requires-after_bounds
make-requires-after_bounds g c = λ κs lives.
    let kept = c.len-2.ensures.value in
    let many = c.len-3.ensures in
    let order = c.spots.ensures.order in
    let within = c.spots.ensures.within in
    let fits : nat_lt MAX_UNITS (c.len-2.result - (c.spots.result.1.offset - c.spots.result.0.offset) + c.len-3.result) ≡ false = sym c.is_too_long.ensures ∙ c.if-is_too_long.false in (
      omega arith,
      (
        c.requires.count,
        (
          are_spots c.args.self.now.text _ _ c.spots.result.0 c.spots.result.1 c.spots.ensures.from c.spots.ensures.to c.spots.ensures.order c.spots.ensures.within,
          (
            grind (arith, nat_tests, fits, kept, many, order, within),
            (c.requires.sound, (c.requires.told, c.requires.stands)),
          ),
        ),
      ),
    )

pub returns-then-is_nothing-clause-ok : goal.returns-then-is_nothing-clause-ok
returns-then-is_nothing-clause-ok g c =
    let s : State = state_of c.args.self.now in
    let new : List ℕ = utf16_of c.args.text.now in
    let i : ℕ = c.spots.result.0.offset in
    let j : ℕ = c.spots.result.1.offset in
    let first : i ≡ clipped_offset s.text c.args.range.start = ap (λ (x : Spot). x.offset) c.spots.ensures.from in
    let last : j ≡ clipped_offset s.text c.args.range.end = ap (λ (x : Spot). x.offset) c.spots.ensures.to in
    let here : c.spots.result.0.point ≡ point_at s.text i = ap (λ (x : Spot). x.point) c.spots.ensures.from ∙ ap (point_at s.text) (sym first) in
    let many : c.len.result ≡ length new = c.len.ensures ∙ ap (λ (u : List ℕ). length u) c.in_ok-new_text.ensures in
    let none : is_nothing i j new ≡ true = subst (λ (n : ℕ). ((i == j) && (n == 0)) ≡ true) many (sym c.is_nothing.ensures ∙ c.if-is_nothing.true) in
    same_answer s (edit (c.args.range, new)) _ _ _ (edit_nothing s c.args.range new i j first last none)
    (ap (λ b. state_of b) c.unchanged.ensures.new)
    (c.unchanged.ensures.reply ∙ ap (λ (p : Point). edited_reply (s.count + 1) (record { from = p; to = p; end = p; hits = no_hits })) here)

pub returns-then-is_too_long-clause-ok : goal.returns-then-is_too_long-clause-ok
returns-then-is_too_long-clause-ok g c =
    let s : State = state_of c.args.self.now in
    let new : List ℕ = utf16_of c.args.text.now in
    let i : ℕ = c.spots.result.0.offset in
    let j : ℕ = c.spots.result.1.offset in
    let first : i ≡ clipped_offset s.text c.args.range.start = ap (λ (x : Spot). x.offset) c.spots.ensures.from in
    let last : j ≡ clipped_offset s.text c.args.range.end = ap (λ (x : Spot). x.offset) c.spots.ensures.to in
    let many : c.len.result ≡ length new = c.len.ensures ∙ ap (λ (u : List ℕ). length u) c.in_ok-new_text.ensures in
    let some : is_nothing i j new ≡ false = subst (λ (n : ℕ). ((i == j) && (n == 0)) ≡ false) many (sym c.is_nothing.ensures ∙ c.if-is_nothing.false) in
    let all : length (replaced s.text i j new) ≡ c.len-2.result - (j - i) + c.len-3.result =
    too_long_is s.text i j new (c.len-2.result - (j - i)) c.len-3.result c.spots.ensures.order c.spots.ensures.within (ap (λ (n : ℕ). n - (j - i)) c.len-2.ensures.value)
    (c.len-3.ensures ∙ ap (λ (u : List ℕ). length u) c.in_ok-new_text.ensures) in
    let long : nat_lt MAX_UNITS (length (replaced s.text i j new)) ≡ true = ap (λ (n : ℕ). nat_lt MAX_UNITS n) all ∙ (sym c.is_too_long.ensures ∙ c.if-is_too_long.true) in
    same_answer s (edit (c.args.range, new)) _ _ _ (edit_too_long s c.args.range new i j first last some long)
    (ap (λ b. state_of b) c.refused.ensures.new) c.refused.ensures.reply

pub returns-clause-ok : goal.returns-clause-ok
returns-clause-ok g c =
    let s : State = state_of c.args.self.now in
    let i : ℕ = c.spots.result.0.offset in
    let j : ℕ = c.spots.result.1.offset in
    let new : List ℕ = c.in_ok-new_text.new_text in
    let first : i ≡ clipped_offset s.text c.args.range.start = ap (λ (x : Spot). x.offset) c.spots.ensures.from in
    let last : j ≡ clipped_offset s.text c.args.range.end = ap (λ (x : Spot). x.offset) c.spots.ensures.to in
    let some : is_nothing i j new ≡ false = subst (λ (n : ℕ). ((i == j) && (n == 0)) ≡ false) c.len.ensures (sym c.is_nothing.ensures ∙ c.if-is_nothing.false) in
    let all : length (replaced s.text i j new) ≡ c.len-2.result - (j - i) + c.len-3.result =
    too_long_is s.text i j new (c.len-2.result - (j - i)) c.len-3.result c.spots.ensures.order c.spots.ensures.within (ap (λ (n : ℕ). n - (j - i)) c.len-2.ensures.value) c.len-3.ensures in
    let fits : nat_lt MAX_UNITS (length (replaced s.text i j new)) ≡ false = ap (λ (n : ℕ). nat_lt MAX_UNITS n) all ∙ (sym c.is_too_long.ensures ∙ c.if-is_too_long.false) in
    let x : State × Answer = (counted (with_step (change_of s i j new ∷ []) (changed s i j new)), Edited (part_of s i j new)) in
    let is : step s (edit (c.args.range, utf16_of c.args.text.now)) ≡ x =
    subst (λ (u : List ℕ). step s (edit (c.args.range, u)) ≡ x) c.in_ok-new_text.ensures (edit_makes s c.args.range new i j first last some fits) in
    done_answer s (edit (c.args.range, utf16_of c.args.text.now)) x c.make.result (state_of c.make.new.self) is c.make.ensures.state c.make.ensures.reply
