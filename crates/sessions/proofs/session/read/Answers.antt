use Rattle.std.proofs.Common.{ℕ, List, sym, subst}
use Rattle.points.specs.Text.{IsWellFormed}
use Rattle.sessions.proofs.session.read.Goals as goal

pub answer_reads-requires-clause-whole : goal.answer_reads-requires-clause-whole
answer_reads-requires-clause-whole g c = λ κs within. subst (λ (t : List ℕ). ∥ IsWellFormed t ∥₁) (sym c.in_ok-reader.ensures) c.find-snapshot.result.now.whole
