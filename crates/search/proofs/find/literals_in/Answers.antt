use Rattle.std.proofs.Common.{ℕ, Some, length, subst, ◌∙◌, ◌≤◌}
use Rattle.points.specs.declared.limits.TheConstants.{MAX_UNITS}
use Rattle.outer.specs.Literal.{literal_hits}
use Rattle.search.proofs.FindLemmas.{is_search, shown-sound, shown-short, shown, shown-literal}
use Rattle.search.proofs.find.literals_in.Goals as goal

pub ranges_of-requires-clause-sound : goal.ranges_of-requires-clause-sound
ranges_of-requires-clause-sound c = shown-sound (Some (literal_hits c.args.needle.now)) c.as_str-text.result.now c.args.limit c.in_ok-count.count c.as_slice.result.now
    (is_search _ _ _ _ _ _ _ c.new-hits.ensures c.as_slice.ensures c.in_ok-count.ensures.finds)

pub ranges_of-requires-clause-short : goal.ranges_of-requires-clause-short
ranges_of-requires-clause-short c = let short : length c.args.reader.now.text ≤ MAX_UNITS = subst (λ (n : ℕ). n ≤ MAX_UNITS) c.len.ensures.value c.len.ensures.short in
    shown-short c.args.reader.now.text c.as_str-text.result.now (c.as_str-text.ensures.value ∙ c.in_ok-copy.ensures) c.as_str-text.utf8 short

pub returns : goal.returns
returns c = shown-literal c.args.reader.now.text c.args.needle.now c.args.limit _ c.as_str-text.result.now (c.as_str-text.ensures.value ∙ c.in_ok-copy.ensures) c.as_str-text.utf8 c.utf8.needle c.requires
    (shown (Some (literal_hits c.args.needle.now)) c.args.reader.now.text c.as_str-text.result.now c.args.limit c.in_ok-count.count c.as_slice.result.now _ c.from_vec.result (c.as_str-text.ensures.value ∙ c.in_ok-copy.ensures)
    (is_search _ _ _ _ _ _ _ c.new-hits.ensures c.as_slice.ensures c.in_ok-count.ensures.finds) c.from_vec.ensures c.in_ok-first.ensures)
