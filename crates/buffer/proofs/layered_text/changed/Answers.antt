use Rattle.std.proofs.Common.{ℕ, ◌<◌, List, length, sym, ap, ◌∙◌, arith}
use Rattle.std.specs.Prelude.{Err}
use Rattle.points.specs.Text.{replaced}
use Rattle.points.specs.declared.limits.TheConstants.{MAX_UNITS}
use Rattle.points.proofs.TextLemmas.{length-replaced}
use Rattle.chains.specs.Layered.{whole_text}
use Rattle.layers.specs.Unplaced.{Unplaced}
use Rattle.layers.specs.Shelf.{top_layers, top_text}
use Rattle.layers.proofs.LawLemmas.{change_text}
use Rattle.buffer.proofs.layered_text.changed.Goals as goal

pub text_of-requires : goal.text_of-requires
text_of-requires c =
    let at = c.requires.places in
    let fits = c.requires.fits in
    omega (arith, at.order, at.within, fits)

pub returns-in-Ok-clause-text : goal.returns-in-Ok-clause-text
returns-in-Ok-clause-text c =
    ap (λ (n : Unplaced). whole_text n.layers) c.in-Ok.ensures.ok
    ∙ (change_text (top_layers c.args.shelf.now) c.args.start.offset c.args.end.offset c.in_ok-put.put
    ∙ ap (λ (u : List ℕ). replaced (top_text c.args.shelf.now) c.args.start.offset c.args.end.offset u) c.in_ok-put.ensures)

pub unreachable-requires : goal.unreachable-requires
unreachable-requires c =
    let t : List ℕ = top_text c.args.shelf.now in
    let i : ℕ = c.args.start.offset in
    let j : ℕ = c.args.end.offset in
    let at = c.requires.places in
    let long = c.in-Err-TooLong.ensures.too_long.0 (ap Err c.in-Err-TooLong.field-0-is) in
    let more : MAX_UNITS < length (replaced t i j c.args.new.now) = rw (sym c.in_ok-put.ensures) long in
    let fits = c.requires.fits in
    omega (arith, more, fits, length-replaced t i j c.args.new.now at.order at.within)
