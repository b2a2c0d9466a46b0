use Rattle.std.proofs.Common.{◌≡◌, ap, ◌∙◌}
use Rattle.std.specs.Prelude.{filter}
use Rattle.places.specs.Placed.{is_kept}
use Rattle.layers.specs.declared.versioned.Versioned.{Versioned}
use Rattle.layers.specs.Shelf.{Shelved, top_layers}
use Rattle.layers.proofs.LawLemmas.{installed_top}
use Rattle.buffer.proofs.TopLemmas.{let_go_holds}
use Rattle.buffer.proofs.layered_text.put_on_top.Goals as goal

pub returns-clause-top : goal.returns-clause-top
returns-clause-top c =
    ap (λ (s : Shelved). top_layers s) c.collect.ensures.kept
    ∙ (ap (λ (s : Shelved). top_layers (filter (is_kept s) s)) c.narrow.ensures.list
    ∙ (ap (λ (v : Versioned). v.layers) (let_go_holds c.install.new.self c.places_are_sound.ensures.table)
    ∙ (ap (λ (s : Shelved). top_layers s) c.install.ensures.installed
    ∙ ap (λ (v : Versioned). v.layers) (installed_top c.args.shelf.now c.install.result c.install.ensures.place c.args.layer))))
