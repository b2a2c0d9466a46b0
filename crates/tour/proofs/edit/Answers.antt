use Rattle.std.proofs.Common.{◌≡◌, ◌∙◌, ℕ, List, sym, ap, rules}
use Rattle.points.specs.Place.{point_at, clipped_offset}
use Rattle.points.specs.Text.{replaced, utf16_of}
use Rattle.patch.specs.Splicing.{HasDeleted}
use Rattle.tour.proofs.EditLemmas.{has_deleted, applied_is}
use Rattle.tour.proofs.edit.Goals as goal

pub splice-requires : goal.splice-requires
splice-requires c = let s = c.args.text.now in let none = c.new-patch.ensures.stands s in (
  s,
  c.span-from.result.0,
  point_at s c.span-from.result.1,
  has_deleted c.new-patch.result.changes s c.slice.result.now c.point_at-start.result c.span-from.result.0 c.span-from.result.1 none.0 none.1
      c.span-from.ensures.order c.span-from.ensures.within c.point_at-start.ensures c.slice.ensures,
)

deleted_stands : (c : goal.After-drop-units-inside-2) → HasDeleted c.new-patch.result.changes c.point_at-start.result (point_at c.args.text.now c.span-from.result.1) c.slice.result.now c.args.text.now c.span-from.result.0
deleted_stands c = let s = c.args.text.now in let none = c.new-patch.ensures.stands s in
    has_deleted c.new-patch.result.changes s c.slice.result.now c.point_at-start.result c.span-from.result.0 c.span-from.result.1 none.0 none.1
    c.span-from.ensures.order c.span-from.ensures.within c.point_at-start.ensures c.slice.ensures

pub returns-clause-fits : goal.returns-clause-fits
returns-clause-fits c = (c.in_ok-splice.ensures.stands c.args.text.now c.span-from.result.0 (point_at c.args.text.now c.span-from.result.1) (deleted_stands c)).0

pub returns-clause-same : goal.returns-clause-same
returns-clause-same c = let s = c.args.text.now in let i = c.span-from.result.0 in let j = c.span-from.result.1 in
    c.in_ok-replace.ensures.ok
    ∙ (ap (λ (k : ℕ). replaced s k (clipped_offset s c.args.range.end) (utf16_of c.args.new.now)) (sym c.span-from.ensures.from)
    ∙ (ap (λ (k : ℕ). replaced s i k (utf16_of c.args.new.now)) (sym c.span-from.ensures.to)
    ∙ (ap (λ (us : List ℕ). replaced s i j us) inserted
    ∙ applied_is c.new-patch.result.changes c.splice.new.self.changes s c.slice.result.now i j c.as_slice.result.now (c.new-patch.ensures.stands s).1
    c.span-from.ensures.order c.span-from.ensures.within c.slice.ensures (c.in_ok-splice.ensures.stands s i (point_at s j) (deleted_stands c)).1)))
  where
    inserted : utf16_of c.args.new.now ≡ c.as_slice.result.now
    inserted = search rules
