use Rattle.std.proofs.Common.{ℕ, sym, subst}
use Rattle.std.specs.Prelude.{IsTrue}
use Rattle.places.specs.Placed.{is_live}
use Rattle.layers.proofs.ShelfLemmas.{top_live}
use Rattle.acceptance_shared.proofs.shared_buffer_tests.CountingPlainBuffer.reader.Goals as goal

pub reader-requires : goal.reader-requires
reader-requires c = subst (λ (p : ℕ). IsTrue (is_live c.in_ok-shelf.shelf p)) (sym c.top.ensures) (top_live c.in_ok-shelf.shelf c.places_are_sound.ensures.table)
