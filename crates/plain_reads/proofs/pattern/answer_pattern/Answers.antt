use Rattle.std.proofs.Common.{ℕ, length, subst, ◌∙◌, ◌≤◌}
use Rattle.points.specs.declared.limits.TheConstants.{MAX_UNITS}
use Rattle.plain_reads.proofs.FindLemmas.{is_search, shown-sound, shown-short, shown_answer}
use Rattle.plain_reads.proofs.pattern.answer_pattern.Goals as goal

pub spans_of-requires-clause-sound : goal.spans_of-requires-clause-sound
spans_of-requires-clause-sound g c = shown-sound _ c.as_str-bytes.result.now c.args.limit c.in_ok-count.count c.as_slice.result.now
    (is_search _ _ _ _ _ _ _ c.new-hits.ensures c.as_slice.ensures c.in_ok-count.ensures.finds)

pub spans_of-requires-clause-short : goal.spans_of-requires-clause-short
spans_of-requires-clause-short g c = let short : length c.args.text.now ≤ MAX_UNITS = subst (λ (n : ℕ). n ≤ MAX_UNITS) c.len.ensures.value c.len.ensures.short in
    shown-short c.args.text.now c.as_str-bytes.result.now (c.as_str-bytes.ensures.value ∙ c.in_ok-copy.ensures) c.as_str-bytes.utf8 short

pub returns-clause-told : goal.returns-clause-told
returns-clause-told g c = shown_answer _ c.args.text.now c.as_str-bytes.result.now c.args.limit c.in_ok-count.count c.as_slice.result.now c.new.result (c.as_str-bytes.ensures.value ∙ c.in_ok-copy.ensures)
    (is_search _ _ _ _ _ _ _ c.new-hits.ensures c.as_slice.ensures c.in_ok-count.ensures.finds) (c.new.ensures ∙ c.in_ok-spans.ensures)
