use Rattle.std.proofs.Common.{◌≡◌, ℕ, List, length, map, ap, ◌∙◌}
use Rattle.points.specs.Text.{utf16_of}
use Rattle.points.specs.Literal.{hits}
use Rattle.machine.specs.Answers.{found, span_at}
use Rattle.plain_reads.proofs.SearchLemmas.{found_so, whole_slice}
use Rattle.plain_reads.proofs.find.find.Goals as goal

pub returns : goal.returns
returns c =
    let t : List ℕ = c.args.text.now in
    let units : List ℕ = utf16_of c.args.needle.now in
    let needle : c.in_ok-needle.needle ≡ units = c.in_ok-needle.ensures in
    let text : c.slice-units.result.now ≡ t = c.slice-units.ensures ∙ whole_slice t c.len.result c.len.ensures.value in
    let starts : c.in_ok-starts.starts.items ≡ hits t units = c.in_ok-starts.ensures ∙ (ap (λ (xs : List ℕ). hits xs c.as_slice.result.now) text ∙ ap (hits t) (c.as_slice.ensures ∙ needle)) in
    let spans : c.new.result ≡ map (span_at t (length units)) c.as_slice-3.result.now = c.new.ensures ∙ (c.in_ok-spans.ensures ∙ ap (λ (n : ℕ). map (span_at t n) c.as_slice-3.result.now) (c.len-2.ensures ∙ ap length needle)) in
    found_so t (length units) (length c.as_slice-2.result.now) c.args.limit c.in_ok-starts.starts.items c.as_slice-3.result.now c.new.result (ap length c.as_slice-2.ensures.value) (c.as_slice-3.ensures.value ∙ c.truncate.ensures.items) spans
    ∙ ap (λ (xs : List ℕ). found c.args.limit (map (span_at t (length units)) xs)) starts
